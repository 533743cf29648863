use Rattle.std.proofs.Common.{◌∙◌, sym}
use Rattle.bw_mask.specs.Masks.{row_at}
use Rattle.bw_column.specs.Values.{value_at}
use Rattle.bw_column.proofs.Scans.{split_truth}
use Rattle.bw_column.proofs.column.Column.test_in.Goals as goal

pub returns-clause-truth : goal.returns-clause-truth
returns-clause-truth c holds exact = record {
  len = c.new.ensures.len ∙ c.split.ensures.shape.0 ∙ c.take_masks-trues.ensures.len ∙ c.requires.truth ∙ sym c.requires.need;
  rows = λ i.
      c.new.ensures.rows i
      ∙ split_truth holds (row_at c.args.need.now i) (value_at c.args.self.now.values i) (row_at c.split.new.trues i) (row_at c.split.new.falses i) (c.split.ensures.trues holds exact i) (c.split.ensures.falses i);
}
