use Rattle.std.proofs.Common.{length, ℕ, ◌<◌, ◌≡◌, ◌≤◌}
use Rattle.std.specs.Prelude.{◌↔◌}
use Rattle.bw_code.specs.declared.encoding.Encoding.TheVariants as by
use Rattle.bw_dictionary.specs.Merging.{StandsAt}
use Rattle.bw_column.proofs.Standing.{HasCodeFrom}
use Rattle.bw_column.proofs.column.Column.mark_rows.Given as goal

-- the codes of the values from this row on are marked
abbrev pub invariant-loop-at : goal.invariant-loop-at
invariant-loop-at l = record {
  at : l.at ≤ length l.self.values;
  count : length l.stands ≡ length l.entries;
  first : l.first ≤ length l.entries;
  before : (m : ℕ) → m < l.first → StandsAt l.stands m;
  marks : (m : ℕ) → (StandsAt l.stands m ↔ HasCodeFrom (by.Dictionary l.entries) l.self.values l.at m);
}

abbrev pub decreases-loop-at : goal.decreases-loop-at
decreases-loop-at l = l.at
