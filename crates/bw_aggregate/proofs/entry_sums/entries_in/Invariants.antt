use Rattle.std.proofs.Common.{Bool, List, Option, ℕ, ℤ, ◌*◌, ◌+◌, ◌+ℤ◌, ◌^◌, ◌≡◌, ◌≤◌}
use Rattle.std.specs.Prelude.{unsigned_abs}
use Rattle.bw_aggregate.specs.Entries.{AreSummed}
use Rattle.bw_aggregate.specs.Runs.{value_total}
use Rattle.bw_aggregate.proofs.entry_sums.entries_in.Given as goal

abbrev pub invariant-codes : goal.invariant-codes
invariant-codes l = record {
  totals : (need : List Bool) (all : List (Option ℤ)) (at : ℕ) → AreSummed need all at l.entries l.codes l.rows → value_total need all (at + l.i) ≡ value_total need all at +ℤ l.total;
  small : unsigned_abs l.total ≤ l.i * 2 ^ 63;
}
