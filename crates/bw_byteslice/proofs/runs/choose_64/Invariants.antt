use Rattle.std.proofs.Common.{false, get_or, length, ℕ, ◌<◌, ◌≡◌}
use Rattle.bw_mask.specs.Masks.{bit_of}
use Rattle.bw_byteslice.proofs.runs.choose_64.Given as goal

-- the rows before this one are looked at
abbrev pub invariant-loop-r : goal.invariant-loop-r
invariant-loop-r l = record {
  len : length l.chosen ≡ length l.fn.chosen;
  each : (k : ℕ) → k < l.r → get_or l.chosen k false ≡ bit_of l.rows k;
}
