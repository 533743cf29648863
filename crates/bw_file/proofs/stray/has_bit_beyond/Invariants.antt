use Rattle.std.proofs.Common.{bit_and, get_or, ℕ, ◌-◌, ◌<◌, ◌≡◌}
use Rattle.bw_file.proofs.stray.has_bit_beyond.Given as goal

abbrev pub invariant-bytes : goal.invariant-bytes
invariant-bytes l = record {
  no : l.stray ≡ 0 → (i : ℕ) → i < l.j → bit_and (get_or l.plane i 0) (255 - get_or l.present i 0) ≡ 0;
  yes : ((i : ℕ) → i < l.j → bit_and (get_or l.plane i 0) (255 - get_or l.present i 0) ≡ 0) → l.stray ≡ 0;
}
