use Rattle.std.proofs.Common.{get_or, length, nat_lt, ℕ, ◌&&◌, ◌*◌, ◌+◌, ◌<◌, ◌≡◌, ◌≤◌}
use Rattle.bw_mask.specs.Masks.{row_at, row_in}
use Rattle.bw_column.proofs.lent_planes.words_of_rows.Given as goal

-- the words so far, and 0 after them
abbrev pub invariant-loop-j : goal.invariant-loop-j
invariant-loop-j l = record {
  long : length l.words ≡ 32;
  rows : (i : ℕ) → i < 64 * l.j → row_in l.words i ≡ (nat_lt i l.n && row_at l.mask (l.at + i));
  rest : (m : ℕ) → l.j ≤ m → get_or l.words m 0 ≡ 0;
}
