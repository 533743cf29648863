use Rattle.std.proofs.Common.{[], get_or, length, vec_len, ℕ, ◌*◌, ◌+◌, ◌<◌, ◌^◌, ◌≡◌, ◌≤◌}
use Rattle.bw_code.specs.Units.{digit}
use Rattle.bw_vertical.specs.Planes.{code_by_planes}
use Rattle.bw_byteslice.specs.Slices.{shift_of, slices_of}
use Rattle.bw_byteslice.specs.Storing.{byte_of, bytes_of, capacities_of}
use Rattle.bw_byteslice.proofs.plane_blocks.put_block.Given as goal

-- the slices so far
abbrev pub invariant-loop-i : goal.invariant-loop-i
invariant-loop-i l = record {
  count : vec_len l.slices ≡ vec_len l.fn.slices;
  capacities : capacities_of l.slices.items ≡ capacities_of l.fn.slices.items;
  len : (i : ℕ) → length (get_or (bytes_of l.slices.items) i []) ≡ length (get_or (bytes_of l.fn.slices.items) i []);
  inside : (i r : ℕ) → i < l.i → r < l.n → byte_of (bytes_of l.slices.items) (l.at + r) i ≡ digit 256 (slices_of l.width) (code_by_planes l.width l.block r * 2 ^ shift_of l.width) i;
  outside : (i j : ℕ) → (l.at ≤ j → l.at + l.n ≤ j) → byte_of (bytes_of l.slices.items) j i ≡ byte_of (bytes_of l.fn.slices.items) j i;
}
