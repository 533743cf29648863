use Rattle.std.proofs.Common.{get_or, length, nat_lt, ℕ, ◌&&◌, ◌+◌, ◌-◌, ◌<◌, ◌==◌, ◌≡◌, ◌≤◌}
use Rattle.bw_mask.specs.Masks.{bit_of}
use Rattle.bw_file.specs.Planes.{plane_bit}
use Rattle.bw_file.proofs.codes.words_of_run.Given as goal

-- the words of the planes so far
abbrev pub invariant-loop-i : goal.invariant-loop-i
invariant-loop-i l = record {
  long : length l.words ≡ 64;
  bits : (p r : ℕ) → p < l.i → bit_of (get_or l.words (l.k - 1 - p) 0) r ≡ ((plane_bit l.size l.planes p (l.at + r) == 1) && nat_lt r 64);
  rest : (b : ℕ) → l.k ≤ b → get_or l.words b 0 ≡ 0;
}
