use Rattle.std.proofs.Common.{get_or, if◌then◌else◌, length, ℕ, ◌<◌, ◌≡◌, ◌≤◌}
use Rattle.bw_mask.specs.Masks.{bit_of}
use Rattle.bw_column.proofs.copying.keep_rows.Given as goal

-- the codes so far, and those after them unchanged
abbrev pub invariant-loop-i : goal.invariant-loop-i
invariant-loop-i l = record {
  long : length l.codes ≡ length l.fn.codes;
  done : (k : ℕ) → k < l.i → get_or l.codes k 0 ≡ (if bit_of l.kept k then get_or l.fn.codes k 0 else 0);
  rest : (k : ℕ) → l.i ≤ k → get_or l.codes k 0 ≡ get_or l.fn.codes k 0;
}
