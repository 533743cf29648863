use Rattle.std.proofs.Common.{[], false, get_or, length, true, vec_len, ℕ, ◌+◌, ◌-◌, ◌<◌, ◌≡◌, ◌≤◌}
use Rattle.bw_code.specs.Units.{digit}
use Rattle.bw_byteslice.specs.Storing.{byte_of, bytes_of, capacities_of}
use Rattle.bw_byteslice.proofs.runs.put_numbers.Given as goal

abbrev pub invariant-loop-i : goal.invariant-loop-i
invariant-loop-i l = record {
  long : length l.bytes ≡ length l.numbers;
  count : vec_len l.slices ≡ vec_len l.fn.slices;
  capacities : capacities_of l.slices.items ≡ capacities_of l.fn.slices.items;
  len : (i : ℕ) → length (get_or (bytes_of l.slices.items) i []) ≡ length (get_or (bytes_of l.fn.slices.items) i []);
  put : (i r : ℕ) → i < l.i → r < length l.numbers → get_or l.chosen r false ≡ true → byte_of (bytes_of l.slices.items) (l.at + r) (l.first + i) ≡ digit 256 l.m (get_or l.numbers r 0) i;
  others : (i j : ℕ) → (l.first ≤ i → l.first + l.m ≤ i) → byte_of (bytes_of l.slices.items) j i ≡ byte_of (bytes_of l.fn.slices.items) j i;
  kept : (i j : ℕ) → (l.at ≤ j → get_or l.chosen (j - l.at) false ≡ false) → byte_of (bytes_of l.slices.items) j i ≡ byte_of (bytes_of l.fn.slices.items) j i;
}
