use Rattle.std.proofs.Common.{sym}
use Rattle.bw_model.specs.Select.{line_of}
use Rattle.bw_model.proofs.Lines.{joined_more}
use Rattle.bw_model.proofs.select.lines_of.Goals as goal

pub loop-row-preserved : goal.loop-row-preserved
loop-row-preserved c =
    rw (c.in_ok-append.ensures.items, c.in_ok-line.ensures, c.loop-row.invariant)
    (sym (joined_more (line_of c.args.headers.now c.args.list.now) (λ row. row.now) c.args.rows.now c.loop-row.row-index c.row-item.result c.loop-row-test.true c.row-item.is))
