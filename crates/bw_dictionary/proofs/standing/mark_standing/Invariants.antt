use Rattle.std.proofs.Common.{length, ℕ, ◌≡◌, ◌⊎◌}
use Rattle.std.specs.Prelude.{◌↔◌}
use Rattle.bw_dictionary.specs.Merging.{StandsAt}
use Rattle.bw_dictionary.specs.Moving.{IsCodeOf}
use Rattle.bw_dictionary.proofs.standing.mark_standing.Given as goal

-- the first rows are marked
abbrev pub invariant-codes : goal.invariant-codes
invariant-codes l = record {
  count : length l.stands ≡ length l.fn.stands;
  marks : (m : ℕ) → StandsAt l.stands m ↔ (StandsAt l.fn.stands m ⊎ IsCodeOf l.codes l.present l.i m);
}
