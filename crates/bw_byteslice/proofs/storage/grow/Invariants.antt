use Rattle.std.proofs.Common.{[], get_or, length, vec_len, ℕ, ◌<◌, ◌≡◌, ◌≤◌}
use Rattle.bw_byteslice.specs.Storing.{byte_of, bytes_of, capacities_of}
use Rattle.bw_byteslice.proofs.storage.grow.Given as goal

abbrev pub invariant-loop-i : goal.invariant-loop-i
invariant-loop-i l = record {
  count : vec_len l.slices ≡ vec_len l.fn.slices;
  capacities : (i : ℕ) → get_or (capacities_of l.fn.slices.items) i 0 ≤ get_or (capacities_of l.slices.items) i 0;
  len : (i : ℕ) → i < l.i → length (get_or (bytes_of l.slices.items) i []) ≡ l.len;
  longer : (i : ℕ) → length (get_or (bytes_of l.slices.items) i []) ≤ l.len;
  bytes : (i j : ℕ) → byte_of (bytes_of l.slices.items) j i ≡ byte_of (bytes_of l.fn.slices.items) j i;
}
