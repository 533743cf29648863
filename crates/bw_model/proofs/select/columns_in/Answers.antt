use Rattle.bw_model.proofs.Items.{columns_more}
use Rattle.bw_model.proofs.select.columns_in.Goals as goal

pub loop-item-preserved : goal.loop-item-preserved
loop-item-preserved c = rw (c.in_ok-put_column.ensures, c.loop-item.invariant) (columns_more c.args.list.now c.loop-item.item-index c.item-item.result c.loop-item-test.true c.item-item.is)
