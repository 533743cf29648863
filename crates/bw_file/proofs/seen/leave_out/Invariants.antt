use Rattle.std.proofs.Common.{length, not, ℕ, ◌&&◌, ◌*◌, ◌<◌, ◌≡◌, ◌≤◌}
use Rattle.bw_mask.specs.Masks.{row_in}
use Rattle.bw_file.proofs.seen.leave_out.Given as goal

-- the words so far
abbrev pub invariant-loop-j : goal.invariant-loop-j
invariant-loop-j l = record {
  long : length l.rows ≡ 32;
  done : (r : ℕ) → r < 64 * l.j → row_in l.rows r ≡ (row_in l.fn.rows r && not (row_in l.plane r));
  rest : (r : ℕ) → 64 * l.j ≤ r → row_in l.rows r ≡ row_in l.fn.rows r;
}
