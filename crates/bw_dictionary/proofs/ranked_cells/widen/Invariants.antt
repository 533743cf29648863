use Rattle.std.proofs.Common.{get_or, length, ℕ, ◌<◌, ◌≡◌}
use Rattle.bw_dictionary.proofs.ranked_cells.widen.Given as goal

abbrev pub invariant-places : goal.invariant-places
invariant-places l = record {
  long : length l.codes ≡ length l.fn.codes;
  done : (k : ℕ) → k < l.i → get_or l.codes k 0 ≡ get_or l.places k 0;
}
