use Rattle.std.proofs.Common.{[], get_or, ℕ, ◌*◌, ◌<◌, ◌≡◌}
use Rattle.bw_mask.specs.Masks.{bit_of, row_in}
use Rattle.bw_vertical.proofs.code_blocks.put_block_of_narrow.Given as goal

-- the words so far
abbrev pub invariant-loop-j : goal.invariant-loop-j
invariant-loop-j l = (b r : ℕ) → b < l.k → r < 64 * l.j → row_in (get_or l.block b []) r ≡ bit_of (get_or l.codes r 0) b
