use Rattle.std.proofs.Common.{get_or, if◌then◌else◌, length, ℕ, ◌<◌, ◌≡◌, ◌≤◌}
use Rattle.bw_mask.specs.Masks.{bit_of}
use Rattle.bw_column.specs.Moves.{raised_code}
use Rattle.bw_column.proofs.raising.raise_codes.Given as goal

-- the first rows have risen, and the others are as they were
abbrev pub invariant-codes : goal.invariant-codes
invariant-codes l = record {
  long : length l.codes ≡ length l.fn.codes;
  done : (k : ℕ) → k < l.i → get_or l.codes k 0 ≡ (if bit_of l.present k then raised_code l.place (get_or l.fn.codes k 0) else 0);
  rest : (k : ℕ) → l.i ≤ k → get_or l.codes k 0 ≡ get_or l.fn.codes k 0;
}
