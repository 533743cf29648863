use Rattle.std.proofs.Common.{get_or, length, ℕ, ◌<◌, ◌≡◌}
use Rattle.bw_aggregate.specs.Runs.{upper_half}
use Rattle.bw_aggregate.proofs.runs.upper_halves.Given as goal

abbrev pub invariant-codes : goal.invariant-codes
invariant-codes l = record {
  long : length l.halves ≡ 64;
  each : (k : ℕ) → k < l.i → get_or l.halves k 0 ≡ upper_half (get_or l.codes k 0);
}
