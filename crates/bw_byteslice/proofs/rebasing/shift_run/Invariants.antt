use Rattle.std.proofs.Common.{[], get_or, if◌then◌else◌, length, vec_len, ℕ, ◌%◌, ◌*◌, ◌+◌, ◌-◌, ◌<◌, ◌^◌, ◌≡◌, ◌≤◌}
use Rattle.bw_mask.specs.Masks.{bit_of}
use Rattle.bw_byteslice.specs.Storing.{byte_of, bytes_of, capacities_of}
use Rattle.bw_byteslice.proofs.Carrying.{low_of}
use Rattle.bw_byteslice.proofs.rebasing.shift_run.Given as goal

-- the last p bytes are added, with a carry to the byte above, and the bytes above are as they were
abbrev pub invariant-loop-p : goal.invariant-loop-p
invariant-loop-p l = record {
  count : vec_len l.slices ≡ vec_len l.fn.slices;
  capacities : capacities_of l.slices.items ≡ capacities_of l.fn.slices.items;
  len : (i : ℕ) → length (get_or (bytes_of l.slices.items) i []) ≡ length (get_or (bytes_of l.fn.slices.items) i []);
  bytes : (i j : ℕ) → byte_of (bytes_of l.slices.items) j i < 256;
  low : (r : ℕ) → r < 64 → get_or l.carries r 0 ≤ 1;
  sums : (r : ℕ) → r < l.n → low_of l.m l.p (byte_of (bytes_of l.slices.items) (l.at + r)) + get_or l.carries r 0 * 256 ^ l.p
      ≡ low_of l.m l.p (byte_of (bytes_of l.fn.slices.items) (l.at + r)) + (if bit_of l.rows r then l.number else 0) % 256 ^ l.p;
  left : (i j : ℕ) → i < l.m - l.p → byte_of (bytes_of l.slices.items) j i ≡ byte_of (bytes_of l.fn.slices.items) j i;
  others : (i j : ℕ) → (l.at ≤ j → l.at + l.n ≤ j) → byte_of (bytes_of l.slices.items) j i ≡ byte_of (bytes_of l.fn.slices.items) j i;
}
