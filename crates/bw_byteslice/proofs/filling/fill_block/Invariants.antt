use Rattle.std.proofs.Common.{[], false, get_or, if◌then◌else◌, length, vec_len, ℕ, ◌+◌, ◌<◌, ◌≡◌, ◌≤◌}
use Rattle.bw_code.specs.Units.{digit}
use Rattle.bw_byteslice.specs.Storing.{byte_of, bytes_of, capacities_of}
use Rattle.bw_byteslice.proofs.filling.fill_block.Given as goal

-- the slices before this one are filled, and the others are as they were
abbrev pub invariant-loop-i : goal.invariant-loop-i
invariant-loop-i l = record {
  count : vec_len l.slices ≡ vec_len l.fn.slices;
  capacities : capacities_of l.slices.items ≡ capacities_of l.fn.slices.items;
  len : (i : ℕ) → length (get_or (bytes_of l.slices.items) i []) ≡ length (get_or (bytes_of l.fn.slices.items) i []);
  done : (i r : ℕ) → i < l.i → r < l.n → byte_of (bytes_of l.slices.items) (l.at + r) i ≡ (if get_or l.chosen r false then digit 256 l.m l.number i else byte_of (bytes_of l.fn.slices.items) (l.at + r) i);
  left : (i j : ℕ) → l.i ≤ i → byte_of (bytes_of l.slices.items) j i ≡ byte_of (bytes_of l.fn.slices.items) j i;
  others : (i j : ℕ) → (l.at ≤ j → l.at + l.n ≤ j) → byte_of (bytes_of l.slices.items) j i ≡ byte_of (bytes_of l.fn.slices.items) j i;
}
