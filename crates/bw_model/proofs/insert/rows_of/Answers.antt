use Rattle.bw_model.proofs.Values.{rows_of-widths, sum-widths}
use Rattle.bw_model.proofs.insert.rows_of.Goals as goal

pub loop-width-init : goal.loop-width-init
loop-width-init c =
    rw (c.widths-width-items.ensures, c.values-rest.ensures, c.new-list.ensures.items)
    record { fits = sum-widths c.args.rows.now; rows = rows_of-widths c.args.rows.now }
