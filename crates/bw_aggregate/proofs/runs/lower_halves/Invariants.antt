use Rattle.std.proofs.Common.{get_or, length, ℕ, ◌<◌, ◌≡◌}
use Rattle.bw_aggregate.specs.Runs.{lower_half}
use Rattle.bw_aggregate.proofs.runs.lower_halves.Given as goal

abbrev pub invariant-codes : goal.invariant-codes
invariant-codes l = record {
  long : length l.halves ≡ 64;
  each : (k : ℕ) → k < l.i → get_or l.halves k 0 ≡ lower_half (get_or l.codes k 0);
}
