use Rattle.std.proofs.Common.{bit_and, take, ◌*◌, ◌≡◌, ◌≤◌}
use Rattle.std.specs.List.{sum_by, zip}
use Rattle.std.specs.Int.RustNames.{count_ones}
use Rattle.bw_lane.proofs.words.count_and_words.Given as goal

abbrev pub invariant-words : goal.invariant-words
invariant-words l = record {
  total : l.total ≡ sum_by (λ p. count_ones (bit_and p.0 p.1)) (take l.i (zip l.a l.b));
  small : l.total ≤ 64 * l.i;
}
