use Rattle.std.proofs.Common.{[], get_or, length, vec_len, ℕ, ◌*◌, ◌+◌, ◌-◌, ◌<◌, ◌^◌, ◌≡◌, ◌≤◌}
use Rattle.bw_code.specs.Units.{digit}
use Rattle.bw_byteslice.specs.Slices.{shift_of, slices_of}
use Rattle.bw_byteslice.specs.Storing.{byte_of, bytes_of, capacities_of}
use Rattle.bw_byteslice.proofs.storage.put.Given as goal

-- the codes before `done` are written
abbrev pub invariant-parts : goal.invariant-parts
invariant-parts l = record {
  some : l.done ≤ length l.codes;
  count : vec_len l.slices ≡ vec_len l.fn.slices;
  capacities : capacities_of l.slices.items ≡ capacities_of l.fn.slices.items;
  len : (i : ℕ) → length (get_or (bytes_of l.slices.items) i []) ≡ length (get_or (bytes_of l.fn.slices.items) i []);
  inside : (i r : ℕ) → i < slices_of l.width → r < l.done → byte_of (bytes_of l.slices.items) (l.at + r) i ≡ digit 256 (slices_of l.width) (get_or l.codes r 0 * 2 ^ shift_of l.width) i;
  outside : (i j : ℕ) → (l.at ≤ j → l.at + l.done ≤ j) → byte_of (bytes_of l.slices.items) j i ≡ byte_of (bytes_of l.fn.slices.items) j i;
}

abbrev pub decreases-parts : goal.decreases-parts
decreases-parts l = length l.codes - l.done
