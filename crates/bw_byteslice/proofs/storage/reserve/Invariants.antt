use Rattle.std.proofs.Common.{get_or, vec_len, ℕ, ◌<◌, ◌≡◌, ◌≤◌}
use Rattle.bw_byteslice.specs.Storing.{bytes_of, capacities_of}
use Rattle.bw_byteslice.proofs.storage.reserve.Given as goal

abbrev pub invariant-loop-i : goal.invariant-loop-i
invariant-loop-i l = record {
  count : vec_len l.slices ≡ vec_len l.fn.slices;
  bytes : bytes_of l.slices.items ≡ bytes_of l.fn.slices.items;
  capacities : (i : ℕ) → get_or (capacities_of l.fn.slices.items) i 0 ≤ get_or (capacities_of l.slices.items) i 0;
  room : (i : ℕ) → i < l.i → l.len ≤ get_or (capacities_of l.slices.items) i 0;
}
