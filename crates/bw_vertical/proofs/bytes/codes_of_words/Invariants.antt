use Rattle.std.proofs.Common.{[], get_or, length, ℕ, ◌*◌, ◌%◌, ◌/◌, ◌<◌, ◌^◌, ◌≡◌, ◌≤◌}
use Rattle.bw_mask.specs.Masks.{bit_of}
use Rattle.bw_vertical.proofs.bytes.codes_of_words.Given as goal

-- the bytes so far, and zeros after them
abbrev pub invariant-loop-j : goal.invariant-loop-j
invariant-loop-j l = record {
  long : length l.bytes ≡ 4;
  done : (b r : ℕ) → b < 8 * l.j → r < 64 → bit_of (get_or (get_or l.bytes (b / 8) []) r 0) (b % 8) ≡ bit_of (get_or l.words b 0) r;
  rest : (q r : ℕ) → l.j ≤ q → get_or (get_or l.bytes q []) r 0 ≡ 0;
  fit : (q r : ℕ) → get_or (get_or l.bytes q []) r 0 < 2 ^ 8;
}
