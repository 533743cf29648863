use Rattle.std.proofs.Common.{ℕ, ◌*◌, ◌+◌, ◌-◌, ◌^◌}
use Rattle.bw_mask.specs.Masks.{row_in}
use Rattle.bw_code.specs.Columns.{code_at}
use Rattle.bw_aggregate.specs.Ends.{MayBeNearer}
use Rattle.bw_aggregate.specs.declared.end.End.TheVariants.{Greatest, Least}
use Rattle.bw_aggregate.proofs.nearest_planes.near_rows.Given as goal

abbrev pub invariant-groups : goal.invariant-groups
invariant-groups l = record {
  least : MayBeNearer (row_in l.rows) (row_in l.least) (λ (j : ℕ). code_at l.codes (256 * l.q + j)) Least (2 ^ l.codes.width - 1) (2 ^ (l.codes.width - 4 * l.g));
  greatest : MayBeNearer (row_in l.rows) (row_in l.greatest) (λ (j : ℕ). code_at l.codes (256 * l.q + j)) Greatest (2 ^ l.codes.width - 1) (2 ^ (l.codes.width - 4 * l.g));
}

abbrev pub invariant-planes : goal.invariant-planes
invariant-planes l = record {
  least : MayBeNearer (row_in l.rows) (row_in l.least) (λ (j : ℕ). code_at l.codes (256 * l.q + j)) Least (2 ^ l.codes.width - 1) (2 ^ (l.codes.width - l.i));
  greatest : MayBeNearer (row_in l.rows) (row_in l.greatest) (λ (j : ℕ). code_at l.codes (256 * l.q + j)) Greatest (2 ^ l.codes.width - 1) (2 ^ (l.codes.width - l.i));
}
