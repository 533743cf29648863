use Rattle.std.proofs.Common.{[], get_or, if◌then◌else◌, length, vec_len, ℕ, ◌*◌, ◌<◌, ◌≡◌, ◌≤◌}
use Rattle.bw_mask.specs.Masks.{row_at}
use Rattle.bw_byteslice.specs.Slices.{slices_of}
use Rattle.bw_byteslice.specs.Storing.{byte_of, bytes_of, capacities_of}
use Rattle.bw_byteslice.proofs.exchanging.exchange_codes.Given as goal

-- the rows of the blocks before this one are exchanged, and the others are as they were
abbrev pub invariant-loop-b : goal.invariant-loop-b
invariant-loop-b l = record {
  count : vec_len l.slices ≡ vec_len l.fn.slices;
  other_count : vec_len l.others ≡ vec_len l.fn.others;
  capacities : capacities_of l.slices.items ≡ capacities_of l.fn.slices.items;
  other_capacities : capacities_of l.others.items ≡ capacities_of l.fn.others.items;
  len : (i : ℕ) → length (get_or (bytes_of l.slices.items) i []) ≡ length (get_or (bytes_of l.fn.slices.items) i []);
  other_len : (i : ℕ) → length (get_or (bytes_of l.others.items) i []) ≡ length (get_or (bytes_of l.fn.others.items) i []);
  done : (i j : ℕ) → i < slices_of l.width → j < 512 * l.b → byte_of (bytes_of l.slices.items) j i
      ≡ (if row_at l.rows j then byte_of (bytes_of l.fn.others.items) j i else byte_of (bytes_of l.fn.slices.items) j i);
  other_done : (i j : ℕ) → i < slices_of l.width → j < 512 * l.b → byte_of (bytes_of l.others.items) j i
      ≡ (if row_at l.rows j then byte_of (bytes_of l.fn.slices.items) j i else byte_of (bytes_of l.fn.others.items) j i);
  left : (i j : ℕ) → 512 * l.b ≤ j → byte_of (bytes_of l.slices.items) j i ≡ byte_of (bytes_of l.fn.slices.items) j i;
  other_left : (i j : ℕ) → 512 * l.b ≤ j → byte_of (bytes_of l.others.items) j i ≡ byte_of (bytes_of l.fn.others.items) j i;
}
