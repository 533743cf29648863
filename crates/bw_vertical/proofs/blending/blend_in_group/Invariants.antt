use Rattle.std.proofs.Common.{[], get_or, vec_len, ℕ, ◌+◌, ◌-◌, ◌<◌, ◌≡◌, ◌≤◌}
use mathlib.Core.Logic.{◌≢◌}
use Rattle.std.specs.Prelude.{vec_capacity}
use Rattle.bw_vertical.specs.Storage.{blended}
use Rattle.bw_vertical.proofs.blending.blend_in_group.Given as goal

-- the planes so far
abbrev pub invariant-loop-i : goal.invariant-loop-i
invariant-loop-i l = record {
  len : vec_len l.group ≡ vec_len l.fn.group;
  capacity : vec_capacity l.group ≡ vec_capacity l.fn.group;
  put : (p : ℕ) → p < l.i → get_or (get_or l.group.items (l.from + p) []) l.lane 0
      ≡ blended l.rows (get_or l.words (l.top - p) 0) (get_or (get_or l.fn.group.items (l.from + p) []) l.lane 0);
  lanes : (b n : ℕ) → n ≢ l.lane → get_or (get_or l.group.items b []) n 0 ≡ get_or (get_or l.fn.group.items b []) n 0;
  before : (b : ℕ) → b < l.from → get_or l.group.items b [] ≡ get_or l.fn.group.items b [];
  rest : (b : ℕ) → l.from + l.i ≤ b → get_or l.group.items b [] ≡ get_or l.fn.group.items b [];
}
