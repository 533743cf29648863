use Rattle.std.proofs.Common.{[], get_or, length, ℕ, ◌*◌, ◌+◌, ◌-◌, ◌/◌, ◌<◌, ◌≡◌}
use mathlib.Core.Logic.{◌≢◌}
use Rattle.bw_vertical.proofs.plane_blocks.take_part.Given as goal

-- the planes so far
abbrev pub invariant-loop-i : goal.invariant-loop-i
invariant-loop-i l = record {
  long : length l.block ≡ 64;
  taken : (p w : ℕ) → p < l.i → w < 4 → get_or (get_or l.block (l.top - p) []) (4 * l.s + w) 0 ≡ get_or (get_or l.group (l.from + p) []) w 0;
  above : (b w : ℕ) → l.top < b → get_or (get_or l.block b []) w 0 ≡ get_or (get_or l.fn.block b []) w 0;
  others : (b w : ℕ) → w / 4 ≢ l.s → get_or (get_or l.block b []) w 0 ≡ get_or (get_or l.fn.block b []) w 0;
}
