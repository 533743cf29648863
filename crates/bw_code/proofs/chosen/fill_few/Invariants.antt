use Rattle.std.proofs.Common.{get_or, if◌then◌else◌, length, ℕ, ◌<◌, ◌≡◌, ◌≤◌}
use Rattle.bw_mask.specs.Masks.{bit_of}
use Rattle.bw_code.proofs.chosen.fill_few.Given as goal

-- the codes before this one are put, and the others are as they were
abbrev pub invariant-loop-i : goal.invariant-loop-i
invariant-loop-i l = record {
  done : (k : ℕ) → k < l.i → get_or l.kept k 0 ≡ (if bit_of l.rows k then l.code else get_or l.fn.kept k 0);
  left : (k : ℕ) → l.i ≤ k → get_or l.kept k 0 ≡ get_or l.fn.kept k 0;
  long : length l.kept ≡ length l.fn.kept;
}
