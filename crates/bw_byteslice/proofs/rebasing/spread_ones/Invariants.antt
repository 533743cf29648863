use Rattle.std.proofs.Common.{get_or, if◌then◌else◌, ℕ, ◌<◌, ◌≡◌}
use Rattle.bw_mask.specs.Masks.{bit_of}
use Rattle.bw_byteslice.proofs.rebasing.spread_ones.Given as goal

-- the bytes of the rows before this one
abbrev pub invariant-loop-r : goal.invariant-loop-r
invariant-loop-r l = (k : ℕ) → k < l.r → get_or l.ones k 0 ≡ (if bit_of l.rows k then 255 else 0)
