use Rattle.bw_column.specs.Values.{value_at}
use Rattle.bw_plan.proofs.Comparing.{both_sides}
use Rattle.bw_plan.proofs.comparison_truth.set_column_compared.Goals as goal

pub returns-in-Column-clause-truth : goal.returns-in-Column-clause-truth
returns-in-Column-clause-truth c =
    rw c.in-Column.is
    (both_sides c.args.need.now c.compare_column_in.new.truth c.comparison.result c.args.sign c.comparison.ensures
    (value_at c.args.column.now.values) (value_at c.in-Column.right.now.values) c.compare_column_in.ensures.truth)
