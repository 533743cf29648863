use Rattle.std.proofs.Common.{[], get_or, vec_len, ℕ, ◌*◌, ◌+◌, ◌<◌, ◌≡◌, ◌≤◌}
use Rattle.std.specs.Prelude.{if◌then◌else◌, vec_capacity}
use Rattle.bw_mask.specs.Masks.{row_in}
use Rattle.bw_vertical.proofs.swapping.exchange_segments.Given as goal

-- the segments so far are exchanged, and the others are as they were
abbrev pub invariant-loop-q : goal.invariant-loop-q
invariant-loop-q l = record {
  len : vec_len l.group ≡ vec_len l.fn.group;
  other_len : vec_len l.others ≡ vec_len l.fn.others;
  capacity : vec_capacity l.group ≡ vec_capacity l.fn.group;
  other_capacity : vec_capacity l.others ≡ vec_capacity l.fn.others;
  own : (s i j : ℕ) → s < l.q → i < l.m → j < 256 → row_in (get_or l.group.items (s * l.m + i) []) j
      ≡ (if row_in l.rows (256 * s + j) then row_in (get_or l.fn.others.items (s * l.m + i) []) j else row_in (get_or l.fn.group.items (s * l.m + i) []) j);
  theirs : (s i j : ℕ) → s < l.q → i < l.m → j < 256 → row_in (get_or l.others.items (s * l.m + i) []) j
      ≡ (if row_in l.rows (256 * s + j) then row_in (get_or l.fn.group.items (s * l.m + i) []) j else row_in (get_or l.fn.others.items (s * l.m + i) []) j);
  rest : (b : ℕ) → l.q * l.m ≤ b → get_or l.group.items b [] ≡ get_or l.fn.group.items b [];
  other_rest : (b : ℕ) → l.q * l.m ≤ b → get_or l.others.items b [] ≡ get_or l.fn.others.items b [];
}
