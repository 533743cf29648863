use Rattle.std.proofs.Common.{[], false, get_or, if◌then◌else◌, length, true, vec_len, ℕ, ◌%◌, ◌*◌, ◌+◌, ◌-◌, ◌<◌, ◌^◌, ◌≡◌, ◌≤◌}
use Rattle.bw_mask.specs.Masks.{bit_of}
use Rattle.bw_byteslice.specs.Storing.{byte_of, bytes_of, capacities_of}
use Rattle.bw_byteslice.proofs.Carrying.{low_of}
use Rattle.bw_byteslice.proofs.copying.copy_run.Given as goal

-- the last p bytes of the chosen rows are the sums, with a carry to the byte above, and the other rows are as they were
abbrev pub invariant-loop-p : goal.invariant-loop-p
invariant-loop-p l = record {
  count : vec_len l.slices ≡ vec_len l.fn.slices;
  capacities : capacities_of l.slices.items ≡ capacities_of l.fn.slices.items;
  len : (i : ℕ) → length (get_or (bytes_of l.slices.items) i []) ≡ length (get_or (bytes_of l.fn.slices.items) i []);
  bytes : (i j : ℕ) → byte_of (bytes_of l.slices.items) j i < 256;
  low : (r : ℕ) → r < 64 → get_or l.carries r 0 ≤ 1;
  none : l.number ≡ 0 → (r : ℕ) → r < 64 → get_or l.carries r 0 ≡ 0;
  sums : (r : ℕ) → r < l.n → bit_of l.rows r ≡ true → low_of l.m l.p (byte_of (bytes_of l.slices.items) (l.at + r)) + get_or l.carries r 0 * 256 ^ l.p
      ≡ low_of l.m l.p (byte_of (bytes_of l.others) (l.at + r)) + (if bit_of l.moved r then l.number else 0) % 256 ^ l.p;
  kept : (i j : ℕ) → (l.at ≤ j → get_or l.chosen (j - l.at) false ≡ false) → byte_of (bytes_of l.slices.items) j i ≡ byte_of (bytes_of l.fn.slices.items) j i;
}
