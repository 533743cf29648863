use Rattle.std.proofs.Common.{get_or, if◌then◌else◌, ◌*◌, ◌+◌, ◌≡◌}
use Rattle.bw_mask.specs.Masks.{row_at}
use Rattle.bw_code.specs.Units.{greatest_below, some_below}
use Rattle.test_codes.proofs.units.segment_units.Given as goal

abbrev pub invariant-loop-j : goal.invariant-loop-j
invariant-loop-j l = record {
  some : l.is_some ≡ some_below l.j (λ j. row_at l.need (l.rows * l.q + j));
  greatest : l.greatest ≡ greatest_below l.j (λ j. if row_at l.need (l.rows * l.q + j) then get_or l.agreed (l.rows * l.q + j) 0 else 0);
}
