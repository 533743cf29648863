use Rattle.std.proofs.Common.{get_or, ℕ, ◌<◌, ◌^◌, ◌↔◌}
use Rattle.bw_column.proofs.within.joined.Given as goal

-- the bits of the distances so far
abbrev pub invariant-loop-i : goal.invariant-loop-i
invariant-loop-i l = (w : ℕ) → (l.bits < 2 ^ w) ↔ ((k : ℕ) → k < l.i → get_or l.distances k 0 < 2 ^ w)
