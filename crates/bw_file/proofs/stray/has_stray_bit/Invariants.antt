use Rattle.std.proofs.Common.{get_or, ℕ, ◌%◌, ◌/◌, ◌<◌, ◌≡◌}
use Rattle.std.specs.Int.{bit_at}
use Rattle.bw_file.specs.Planes.{plane_bit}
use Rattle.bw_file.proofs.stray.has_stray_bit.Given as goal

abbrev pub invariant-planes : goal.invariant-planes
invariant-planes l = (q i : ℕ) → q < l.p → i / 8 < l.size → bit_at (get_or l.present (i / 8) 0) (i % 8) ≡ 0 → plane_bit l.size l.planes q i ≡ 0
