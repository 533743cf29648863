use Rattle.std.proofs.Common.{[], get_or, vec_len, ℕ, ◌*◌, ◌+◌, ◌-◌, ◌<◌, ◌≡◌, ◌≤◌}
use Rattle.std.specs.Prelude.{vec_capacity}
use Rattle.bw_vertical.proofs.plane_blocks.put_part.Given as goal

-- the planes so far
abbrev pub invariant-loop-i : goal.invariant-loop-i
invariant-loop-i l = record {
  len : vec_len l.group ≡ vec_len l.fn.group;
  capacity : vec_capacity l.group ≡ vec_capacity l.fn.group;
  put : (p w : ℕ) → p < l.i → w < 4 → get_or (get_or l.group.items (l.from + p) []) w 0 ≡ get_or (get_or l.block (l.top - p) []) (4 * l.s + w) 0;
  before : (b : ℕ) → b < l.from → get_or l.group.items b [] ≡ get_or l.fn.group.items b [];
  rest : (b : ℕ) → l.from + l.i ≤ b → get_or l.group.items b [] ≡ get_or l.fn.group.items b [];
}
