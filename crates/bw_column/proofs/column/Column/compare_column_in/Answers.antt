use Rattle.std.proofs.Common.{sym, ◌∙◌}
use Rattle.bw_mask.specs.Masks.{row_at}
use Rattle.bw_column.specs.Values.{value_at}
use Rattle.bw_column.proofs.Scans.{pair_truth}
use Rattle.bw_column.proofs.column.Column.compare_column_in.Goals as goal

pub returns-clause-truth : goal.returns-clause-truth
returns-clause-truth c = record {
  len = c.new.ensures.len ∙ c.split_by_column.ensures.shape.0 ∙ c.take_masks-trues.ensures.len ∙ c.requires.truth ∙ sym c.requires.need;
  rows = λ i.
      c.new.ensures.rows i
      ∙ pair_truth c.args.op (row_at c.args.need.now i) (value_at c.args.self.now.values i) (value_at c.args.other.now.values i) (row_at c.split_by_column.new.trues i) (row_at c.split_by_column.new.falses i) (c.split_by_column.ensures.trues i) (c.split_by_column.ensures.falses i);
}
