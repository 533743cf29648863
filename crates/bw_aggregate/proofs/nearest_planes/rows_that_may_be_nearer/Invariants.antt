use Rattle.std.proofs.Common.{false, true, ℕ, ◌*◌, ◌+◌, ◌-◌, ◌<◌, ◌^◌, ◌≡◌, ◌≤◌}
use Rattle.bw_mask.specs.Masks.{row_in}
use Rattle.bw_code.specs.Columns.{code_at}
use Rattle.bw_aggregate.specs.Ends.{distance}
use Rattle.bw_aggregate.proofs.nearest_planes.rows_that_may_be_nearer.Given as goal

abbrev pub invariant-groups : goal.invariant-groups
invariant-groups l = record {
  left : (j : ℕ) → j < 256 → row_in l.left j ≡ true → row_in l.rows j ≡ true;
  out : (j : ℕ) → j < 256 → row_in l.rows j ≡ true → row_in l.left j ≡ false → l.best ≤ distance l.end (2 ^ l.codes.width - 1) (code_at l.codes (256 * l.q + j));
}

abbrev pub invariant-planes : goal.invariant-planes
invariant-planes l = record {
  left : (j : ℕ) → j < 256 → row_in l.left j ≡ true → row_in l.rows j ≡ true;
  out : (j : ℕ) → j < 256 → row_in l.rows j ≡ true → row_in l.left j ≡ false → l.best ≤ distance l.end (2 ^ l.codes.width - 1) (code_at l.codes (256 * l.q + j));
}
