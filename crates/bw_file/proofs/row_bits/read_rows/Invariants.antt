use Rattle.std.proofs.Common.{get_or, length, nat_lt, ℕ, ◌%◌, ◌&&◌, ◌*◌, ◌+◌, ◌/◌, ◌<◌, ◌≡◌}
use Rattle.bw_mask.specs.Masks.{bit_of, row_in}
use Rattle.bw_file.proofs.row_bits.read_rows.Given as goal

-- the words so far
abbrev pub invariant-loop-j : goal.invariant-loop-j
invariant-loop-j l = record {
  long : length l.words ≡ 32;
  rows : (i : ℕ) → i < 64 * l.j → row_in l.words i ≡ (bit_of (get_or l.bytes ((l.at + i) / 8) 0) ((l.at + i) % 8) && nat_lt i l.count);
}

-- eight words at a time
abbrev pub invariant-loop-q : goal.invariant-loop-q
invariant-loop-q l = record {
  long : length l.words ≡ 32;
  rows : (i : ℕ) → i < 512 * l.q → row_in l.words i ≡ bit_of (get_or l.bytes ((l.at + i) / 8) 0) ((l.at + i) % 8);
}
