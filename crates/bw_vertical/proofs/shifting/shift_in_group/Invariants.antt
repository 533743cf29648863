use Rattle.std.proofs.Common.{[], get_or, vec_len, ℕ, ◌+◌, ◌-◌, ◌<◌, ◌≡◌, ◌≤◌}
use Rattle.std.specs.Prelude.{if◌then◌else◌, vec_capacity}
use Rattle.bw_mask.specs.Masks.{bit_of, row_in}
use Rattle.bw_vertical.specs.Carries.{HoldBits, carried, lane_bit}
use Rattle.bw_vertical.proofs.shifting.shift_in_group.Given as goal

-- the planes of the n lowest bits are added, and those above them are as they were
abbrev pub invariant-loop-n : goal.invariant-loop-n
invariant-loop-n l = record {
  len : vec_len l.group ≡ vec_len l.fn.group;
  capacity : vec_capacity l.group ≡ vec_capacity l.fn.group;
  sums : (j x : ℕ) → j < 256 → HoldBits l.fn.group.items l.from l.m l.top j x → lane_bit l.fn.carry j ≡ carried x (if row_in l.rows j then l.by else 0) (l.top + 1 - l.m)
      → (i : ℕ) → l.m - l.n ≤ i → i < l.m → row_in (get_or l.group.items (l.from + i) []) j ≡ bit_of (x + (if row_in l.rows j then l.by else 0)) (l.top - i);
  carry : (j x : ℕ) → j < 256 → HoldBits l.fn.group.items l.from l.m l.top j x → lane_bit l.fn.carry j ≡ carried x (if row_in l.rows j then l.by else 0) (l.top + 1 - l.m)
      → lane_bit l.carry j ≡ carried x (if row_in l.rows j then l.by else 0) (l.top + 1 - l.m + l.n);
  left : (b : ℕ) → b < l.from + (l.m - l.n) → get_or l.group.items b [] ≡ get_or l.fn.group.items b [];
  behind : (b : ℕ) → l.from + l.m ≤ b → get_or l.group.items b [] ≡ get_or l.fn.group.items b [];
}
