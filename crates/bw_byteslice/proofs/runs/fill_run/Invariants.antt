use Rattle.std.proofs.Common.{[], false, get_or, length, true, vec_len, ℕ, ◌+◌, ◌-◌, ◌<◌, ◌≡◌, ◌≤◌}
use Rattle.bw_code.specs.Units.{digit}
use Rattle.bw_byteslice.specs.Storing.{byte_of, bytes_of, capacities_of}
use Rattle.bw_byteslice.proofs.runs.fill_run.Given as goal

abbrev pub invariant-loop-i : goal.invariant-loop-i
invariant-loop-i l = record {
  count : vec_len l.slices ≡ vec_len l.fn.slices;
  capacities : capacities_of l.slices.items ≡ capacities_of l.fn.slices.items;
  len : (i : ℕ) → length (get_or (bytes_of l.slices.items) i []) ≡ length (get_or (bytes_of l.fn.slices.items) i []);
  put : (i r : ℕ) → i < l.i → r < l.count → get_or l.chosen r false ≡ true → byte_of (bytes_of l.slices.items) (l.at + r) i ≡ digit 256 l.m l.number i;
  kept : (i j : ℕ) → (l.at ≤ j → get_or l.chosen (j - l.at) false ≡ false) → byte_of (bytes_of l.slices.items) j i ≡ byte_of (bytes_of l.fn.slices.items) j i;
}
