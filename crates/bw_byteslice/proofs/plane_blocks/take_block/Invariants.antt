use Rattle.std.proofs.Common.{[], get_or, ℕ, ◌%◌, ◌*◌, ◌+◌, ◌-◌, ◌/◌, ◌<◌, ◌≡◌, ◌≤◌}
use Rattle.bw_mask.specs.Masks.{bit_of, row_in}
use Rattle.bw_byteslice.specs.Slices.{shift_of, slices_of}
use Rattle.bw_byteslice.specs.Storing.{byte_of, bytes_of}
use Rattle.bw_byteslice.proofs.plane_blocks.take_block.Given as goal

-- the planes of the slices so far
abbrev pub invariant-loop-i : goal.invariant-loop-i
invariant-loop-i l = (b r : ℕ) → b < l.width → r < 2048 → slices_of l.width ≤ (b + shift_of l.width) / 8 + l.i
    → row_in (get_or l.block b []) r ≡ bit_of (byte_of (bytes_of l.slices) (64 * l.w + r) (slices_of l.width - 1 - (b + shift_of l.width) / 8)) ((b + shift_of l.width) % 8)
