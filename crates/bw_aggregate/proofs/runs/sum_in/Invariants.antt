use Rattle.std.proofs.Common.{Bool, List, drop, length, take, ℕ, ◌*◌, ◌+◌, ◌^◌, ◌≡◌, ◌≤◌}
use Rattle.bw_aggregate.specs.Runs.{IsRun, code_sum}
use Rattle.bw_aggregate.proofs.runs.sum_in.Given as goal

abbrev pub invariant-codes : goal.invariant-codes
invariant-codes l = record {
  sums : (need : List Bool) (all : List ℕ) (at : ℕ) → length need ≡ length all → l.codes ≡ take (length l.codes) (drop at all) → IsRun need at (length l.codes) l.rows
      → code_sum need all (at + l.i) ≡ code_sum need all at + l.sum;
  small : l.sum ≤ l.i * 2 ^ 32;
}
