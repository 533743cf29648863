use Rattle.std.proofs.Common.{fold, negsuc, take, ◌≡◌}
use Rattle.std.specs.Int.{int_max}
use Rattle.bw_file.proofs.ends.greatest_of.Given as goal

abbrev pub invariant-loop-word : goal.invariant-loop-word
invariant-loop-word l = record { greatest : l.greatest ≡ fold int_max (negsuc 2147483647) (take l.word-index l.words) }
