use Rattle.std.proofs.Common.{FitsSigned, get_or, not, of_z, pos, rules, to_z, w64, ℕ, ◌&&◌, ◌<◌, ◌≡◌, ◌∙◌, ap, length}
use Rattle.std.specs.Ordering.{int_eq}
use Rattle.std.proofs.lemmas.Int.{to_z-of_z}
use Rattle.bw_mask.specs.Masks.{row_at}
use Rattle.bw_column.specs.Comparisons.{holds_of}
use Rattle.bw_column.specs.Costs.{needed_known}
use Rattle.bw_column.specs.Values.{value_at}
use Rattle.bw_column.proofs.Listed.{entry_rows, entry_units}
use Rattle.bw_column.proofs.column.Column.split_by_list.Goals as goal

pub loop-entry-preserved : goal.loop-entry-preserved
loop-entry-preserved c =
    let k = c.loop-entry.entry-index in
    let entries = c.args.entries.now in
    let values = c.args.self.now.values in
    let entry = get_or entries k (pos 0) in
    let there : k < length entries = c.loop-entry-test.true in
    let fits : FitsSigned w64 entry = search rules in
    let v : to_z w64 (of_z w64 entry) ≡ entry = to_z-of_z w64 entry fits in
    let raw : (i : ℕ) → row_at c.take_out.new.rest i ≡ (row_at c.loop-entry.falses i && not (holds_of (λ x. int_eq x (to_z w64 (of_z w64 entry))) (value_at values i))) = c.take_out.ensures.rows in
    let rows : (i : ℕ) → row_at c.take_out.new.rest i ≡ (row_at c.loop-entry.falses i && not (holds_of (λ x. int_eq x entry) (value_at values i))) = rw v at raw in
    record {
      shape = (c.take_out.ensures.shape.0 ∙ c.loop-entry.invariant.shape.0, c.take_out.ensures.shape.1 ∙ c.loop-entry.invariant.shape.1);
      other_shape = (c.take_out.ensures.other_shape.0 ∙ c.loop-entry.invariant.other_shape.0, c.take_out.ensures.other_shape.1 ∙ c.loop-entry.invariant.other_shape.1);
      rows = λ i.
          rows i ∙ ap (λ b. b && not (holds_of (λ x. int_eq x entry) (value_at values i))) (c.loop-entry.invariant.rows i)
          ∙ entry_rows entries k (needed_known c.args.need.now values i) (value_at values i) there;
      units = rw (c.take_out.ensures.units, v) (entry_units c.args.self.now (row_at c.loop-entry.falses) (row_at c.take_out.new.rest) entries k c.loop-entry.cost there rows ∙ c.loop-entry.invariant.units);
    }
