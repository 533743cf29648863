use Rattle.std.proofs.Common.{[], get_or, ℕ, ◌*◌, ◌+◌, ◌/◌, ◌<◌, ◌≡◌, ◌≤◌}
use mathlib.Core.Logic.{◌≢◌}
use Rattle.bw_vertical.proofs.plane_blocks.clear_segment.Given as goal

-- the planes so far
abbrev pub invariant-loop-b : goal.invariant-loop-b
invariant-loop-b l = record {
  cleared : (p w : ℕ) → p < l.b → w < 4 → get_or (get_or l.block p []) (4 * l.s + w) 0 ≡ 0;
  others : (p w : ℕ) → w / 4 ≢ l.s → get_or (get_or l.block p []) w 0 ≡ get_or (get_or l.fn.block p []) w 0;
  rest : (p w : ℕ) → l.b ≤ p → get_or (get_or l.block p []) w 0 ≡ get_or (get_or l.fn.block p []) w 0;
}
