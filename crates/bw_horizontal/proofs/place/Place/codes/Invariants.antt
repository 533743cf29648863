use Rattle.std.proofs.Common.{get_or, length, ℕ, ◌+◌, ◌<◌, ◌≡◌}
use Rattle.bw_horizontal.specs.Words.{code_in}
use Rattle.bw_horizontal.proofs.place.Place.codes.Given as goal

abbrev pub invariant-loop-i : goal.invariant-loop-i
invariant-loop-i l = record {
  len : length l.out ≡ length l.fn.out;
  codes : (i : ℕ) → i < l.i → get_or l.out i 0 ≡ code_in l.self.masks.width l.words (l.self.row + i);
}
