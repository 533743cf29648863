use Rattle.std.proofs.Common.{[], get_or, if◌then◌else◌, length, vec_len, ℕ, ◌%◌, ◌*◌, ◌+◌, ◌<◌, ◌^◌, ◌≡◌, ◌≤◌}
use Rattle.bw_mask.specs.Masks.{row_at}
use Rattle.bw_byteslice.specs.Slices.{slices_of}
use Rattle.bw_byteslice.specs.Storing.{byte_of, bytes_of, capacities_of, number_at}
use Rattle.bw_byteslice.proofs.copying.copy_codes.Given as goal

-- the rows of the runs before this one are copied, and the others are as they were
abbrev pub invariant-loop-w : goal.invariant-loop-w
invariant-loop-w l = record {
  count : vec_len l.slices ≡ vec_len l.fn.slices;
  capacities : capacities_of l.slices.items ≡ capacities_of l.fn.slices.items;
  len : (i : ℕ) → length (get_or (bytes_of l.slices.items) i []) ≡ length (get_or (bytes_of l.fn.slices.items) i []);
  bytes : (i j : ℕ) → byte_of (bytes_of l.slices.items) j i < 256;
  done : (j : ℕ) → j < 64 * l.w → j < l.len → number_at (slices_of l.width) (bytes_of l.slices.items) j
      ≡ (if row_at l.rows j then (number_at (slices_of l.width) (bytes_of l.others) j + (if row_at l.moved j then l.number else 0)) % 256 ^ slices_of l.width
      else number_at (slices_of l.width) (bytes_of l.fn.slices.items) j);
  left : (i j : ℕ) → (j < 64 * l.w → l.len ≤ j) → byte_of (bytes_of l.slices.items) j i ≡ byte_of (bytes_of l.fn.slices.items) j i;
}
