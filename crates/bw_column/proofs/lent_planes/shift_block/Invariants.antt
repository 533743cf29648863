use Rattle.std.proofs.Common.{[], get_or, if◌then◌else◌, ℕ, ◌*◌, ◌+◌, ◌<◌, ◌≡◌, ◌≤◌}
use Rattle.bw_mask.specs.Masks.{bit_of, row_in}
use Rattle.bw_vertical.specs.Planes.{code_by_planes}
use Rattle.bw_column.proofs.lent_planes.shift_block.Given as goal

-- the words so far are shifted, and those after them are as they were
abbrev pub invariant-loop-j : goal.invariant-loop-j
invariant-loop-j l = record {
  shifted : (b r : ℕ) → b < l.k → r < 64 * l.j → row_in (get_or l.block b []) r ≡ bit_of (code_by_planes l.own l.fn.block r + (if row_in l.rows r then l.by else 0)) b;
  rest : (b m : ℕ) → l.j ≤ m → get_or (get_or l.block b []) m 0 ≡ get_or (get_or l.fn.block b []) m 0;
}
