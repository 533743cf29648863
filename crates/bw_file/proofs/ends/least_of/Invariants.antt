use Rattle.std.proofs.Common.{fold, pos, take, ◌≡◌}
use Rattle.std.specs.Int.{int_min}
use Rattle.bw_file.proofs.ends.least_of.Given as goal

abbrev pub invariant-loop-word : goal.invariant-loop-word
invariant-loop-word l = record { least : l.least ≡ fold int_min (pos 2147483647) (take l.word-index l.words) }
