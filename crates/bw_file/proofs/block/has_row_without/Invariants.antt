use Rattle.std.proofs.Common.{bit_and, get_or, ℕ, ◌-◌, ◌<◌, ◌≡◌, ◌≢◌}
use Rattle.bw_file.proofs.block.has_row_without.Given as goal

-- whether one of the bytes so far has a bit
abbrev pub invariant-bytes : goal.invariant-bytes
invariant-bytes l = record {
  none : l.any ≡ 0 → (i : ℕ) → i < l.j → bit_and (get_or l.rows i 0) (255 - get_or l.plane i 0) ≡ 0;
  some : l.any ≢ 0 → (i : ℕ) × (i < l.j) × (bit_and (get_or l.rows i 0) (255 - get_or l.plane i 0) ≢ 0);
}
