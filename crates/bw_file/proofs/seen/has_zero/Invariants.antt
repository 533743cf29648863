use Rattle.std.proofs.Common.{[], false, get_or, true, ℕ, ◌<◌, ◌≡◌}
use Rattle.bw_mask.specs.Masks.{row_in}
use Rattle.bw_file.proofs.seen.has_zero.Given as goal

-- the rows that are left are set in none of the planes so far
abbrev pub invariant-loop-b : goal.invariant-loop-b
invariant-loop-b l = (r : ℕ) → r < 2048 → row_in l.left r ≡ true → (row_in l.rows r ≡ true) × ((b : ℕ) → b < l.b → row_in (get_or l.block b []) r ≡ false)
