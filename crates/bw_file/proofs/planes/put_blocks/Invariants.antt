use Rattle.std.proofs.Common.{[], get_or, length, ℕ, ◌+◌, ◌-◌, ◌/◌, ◌<◌, ◌==◌, ◌≡◌, ◌≤◌}
use Rattle.bw_mask.specs.Masks.{row_in}
use Rattle.bw_file.specs.Planes.{plane_bit}
use Rattle.bw_file.proofs.planes.put_blocks.Given as goal

-- the planes so far
abbrev pub invariant-loop-p : goal.invariant-loop-p
invariant-loop-p l = record {
  len : length l.planes ≡ length l.fn.planes;
  small : (j : ℕ) → get_or l.planes j 0 < 256;
  first : (q i : ℕ) → q < l.p → i / 8 < l.size → l.at ≤ i → i < l.at + 2048 → (plane_bit l.size l.planes q i == 1) ≡ row_in (get_or l.first (l.k - 1 - q) []) (i - l.at);
  second : (q i : ℕ) → q < l.p → i / 8 < l.size → l.at + 2048 ≤ i → i < l.at + 4096 → (plane_bit l.size l.planes q i == 1) ≡ row_in (get_or l.second (l.k - 1 - q) []) (i - (l.at + 2048));
  outside : (q i : ℕ) → q < l.k → i / 8 < l.size → (q < l.p → l.at ≤ i → l.at + 4096 ≤ i) → plane_bit l.size l.planes q i ≡ plane_bit l.size l.fn.planes q i;
}
