use Rattle.std.proofs.Common.{[], get_or, vec_len, ℕ, ◌+◌, ◌<◌, ◌≡◌, ◌≤◌}
use Rattle.std.specs.Prelude.{if◌then◌else◌, vec_capacity}
use Rattle.bw_mask.specs.Masks.{row_in}
use Rattle.bw_vertical.proofs.swapping.exchange_planes.Given as goal

-- the planes so far are exchanged, and the others are as they were
abbrev pub invariant-loop-i : goal.invariant-loop-i
invariant-loop-i l = record {
  len : vec_len l.group ≡ vec_len l.fn.group;
  other_len : vec_len l.others ≡ vec_len l.fn.others;
  capacity : vec_capacity l.group ≡ vec_capacity l.fn.group;
  other_capacity : vec_capacity l.others ≡ vec_capacity l.fn.others;
  own : (p j : ℕ) → p < l.i → j < 256 → row_in (get_or l.group.items (l.from + p) []) j
      ≡ (if row_in l.rows j then row_in (get_or l.fn.others.items (l.from + p) []) j else row_in (get_or l.fn.group.items (l.from + p) []) j);
  theirs : (p j : ℕ) → p < l.i → j < 256 → row_in (get_or l.others.items (l.from + p) []) j
      ≡ (if row_in l.rows j then row_in (get_or l.fn.group.items (l.from + p) []) j else row_in (get_or l.fn.others.items (l.from + p) []) j);
  before : (b : ℕ) → b < l.from → get_or l.group.items b [] ≡ get_or l.fn.group.items b [];
  other_before : (b : ℕ) → b < l.from → get_or l.others.items b [] ≡ get_or l.fn.others.items b [];
  rest : (b : ℕ) → l.from + l.i ≤ b → get_or l.group.items b [] ≡ get_or l.fn.group.items b [];
  other_rest : (b : ℕ) → l.from + l.i ≤ b → get_or l.others.items b [] ≡ get_or l.fn.others.items b [];
}
