use Rattle.std.proofs.Common.{false, get_or, ℕ, ◌*◌, ◌+◌, ◌<◌, ◌≡◌}
use Rattle.bw_mask.specs.Masks.{row_at}
use Rattle.bw_byteslice.proofs.blocks.choose_block.Given as goal

-- the rows of the words before this one are looked at
abbrev pub invariant-loop-w : goal.invariant-loop-w
invariant-loop-w l = record {
  each : (k : ℕ) → k < 64 * l.w → get_or l.chosen k false ≡ row_at l.rows (l.at + k);
  none : l.some ≡ false → (k : ℕ) → k < 64 * l.w → row_at l.rows (l.at + k) ≡ false;
}

-- and those of this word before this one
abbrev pub invariant-loop-r : goal.invariant-loop-r
invariant-loop-r l = (k : ℕ) → k < 64 * l.w + l.r → get_or l.chosen k false ≡ row_at l.rows (l.at + k)
