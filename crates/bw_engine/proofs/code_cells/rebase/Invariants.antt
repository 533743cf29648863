use Rattle.std.proofs.Common.{cond, get_or, length, ℕ, ◌<◌, ◌≡◌, ◌≤◌}
use Rattle.bw_mask.specs.Masks.{bit_of}
use Rattle.bw_engine.specs.Codes.{rebased}
use Rattle.bw_engine.proofs.code_cells.rebase.Given as goal

-- the numbers before number i are replaced, and the others stand
abbrev pub invariant-loop-i : goal.invariant-loop-i
invariant-loop-i l = record {
  done : (k : ℕ) → k < l.i → get_or l.numbers k 0 ≡ cond (bit_of l.set k) (rebased l.base (get_or l.fn.numbers k 0)) (get_or l.fn.numbers k 0);
  left : (k : ℕ) → l.i ≤ k → get_or l.numbers k 0 ≡ get_or l.fn.numbers k 0;
  long : length l.numbers ≡ length l.fn.numbers;
}
