use Rattle.std.proofs.Common.{[], get_or, length, vec_len, ℕ, ◌+◌, ◌<◌, ◌≡◌, ◌≤◌}
use Rattle.bw_code.specs.Units.{digit}
use Rattle.bw_byteslice.specs.Storing.{byte_of, bytes_of, capacities_of}
use Rattle.bw_byteslice.proofs.storage.put_numbers.Given as goal

abbrev pub invariant-loop-i : goal.invariant-loop-i
invariant-loop-i l = record {
  count : vec_len l.slices ≡ vec_len l.fn.slices;
  capacities : capacities_of l.slices.items ≡ capacities_of l.fn.slices.items;
  len : (i : ℕ) → length (get_or (bytes_of l.slices.items) i []) ≡ length (get_or (bytes_of l.fn.slices.items) i []);
  inside : (i r : ℕ) → i < l.i → r < length l.numbers → byte_of (bytes_of l.slices.items) (l.at + r) (l.first + i) ≡ digit 256 l.m (get_or l.numbers r 0) i;
  others : (i j : ℕ) → (l.first ≤ i → l.first + l.m ≤ i) → byte_of (bytes_of l.slices.items) j i ≡ byte_of (bytes_of l.fn.slices.items) j i;
  outside : (i j : ℕ) → (l.at ≤ j → l.at + length l.numbers ≤ j) → byte_of (bytes_of l.slices.items) j i ≡ byte_of (bytes_of l.fn.slices.items) j i;
}
