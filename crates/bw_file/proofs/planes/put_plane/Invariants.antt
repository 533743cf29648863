use Rattle.std.proofs.Common.{get_or, length, ℕ, ◌%◌, ◌/◌, ◌<◌, ◌≡◌}
use Rattle.bw_mask.specs.Masks.{bit_of}
use Rattle.bw_file.proofs.planes.put_plane.Given as goal

-- the bytes of the words so far
abbrev pub invariant-loop-j : goal.invariant-loop-j
invariant-loop-j l = record {
  len : length l.out ≡ length l.fn.out;
  bits : (i : ℕ) → i / 64 < l.j → i / 8 < length l.out → bit_of (get_or l.out (i / 8) 0) (i % 8) ≡ bit_of (get_or l.words (i / 64) 0) (i % 64);
}

-- the bytes of eight words at a time
abbrev pub invariant-loop-q : goal.invariant-loop-q
invariant-loop-q l = record {
  len : length l.out ≡ length l.fn.out;
  bits : (i : ℕ) → i / 512 < l.q → i / 8 < length l.out → bit_of (get_or l.out (i / 8) 0) (i % 8) ≡ bit_of (get_or l.words (i / 64) 0) (i % 64);
}
