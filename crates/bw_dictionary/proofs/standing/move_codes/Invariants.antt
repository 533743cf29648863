use Rattle.std.proofs.Common.{get_or, if◌then◌else◌, length, min, ℕ, ◌-◌, ◌<◌, ◌≡◌, ◌≤◌}
use Rattle.bw_mask.specs.Masks.{bit_of}
use Rattle.bw_dictionary.proofs.standing.move_codes.Given as goal

-- the first codes are those of the table, and the others are as they were
abbrev pub invariant-codes : goal.invariant-codes
invariant-codes l = record {
  long : length l.codes ≡ length l.fn.codes;
  done : (k : ℕ) → k < l.i → get_or l.codes k 0 ≡ get_or l.moves (min (get_or l.fn.codes k 0) (length l.moves - 1)) 0;
  rest : (k : ℕ) → l.i ≤ k → get_or l.codes k 0 ≡ get_or l.fn.codes k 0;
}

-- of them the first are 0 where their bit isn't set
abbrev pub invariant-present : goal.invariant-present
invariant-present l = record {
  long : length l.codes ≡ length l.fn.codes;
  done : (k : ℕ) → k < l.i → get_or l.codes k 0 ≡ (if bit_of l.present k then get_or l.moves (min (get_or l.fn.codes k 0) (length l.moves - 1)) 0 else 0);
  rest : (k : ℕ) → l.i ≤ k → k < length l.fn.codes → get_or l.codes k 0 ≡ get_or l.moves (min (get_or l.fn.codes k 0) (length l.moves - 1)) 0;
}
