use Rattle.bw_model.specs.ReplyText.{cell_text}
use Rattle.bw_shell.proofs.Items.{comma_fails, first_fails, first_written, item_fails, item_more}
use Rattle.bw_shell.proofs.Texts.{wrote_prefix}
use Rattle.bw_shell.proofs.lines.put_cells.Goals as goal

pub returns-in_err-put_cell : goal.returns-in_err-put_cell
returns-in_err-put_cell g c =
    wrote_prefix _ _ _ _ c.from_residual.ensures.0 (first_fails cell_text _ _ _ _ c.in-len1-up.len_at_least c.first-item.is c.in_err-put_cell.ensures)

pub loop-cell-init : goal.loop-cell-init
loop-cell-init g c = first_written cell_text _ _ _ _ c.in-len1-up.len_at_least c.first-item.is c.in_ok-put_cell.ensures

pub returns-in_err-put : goal.returns-in_err-put
returns-in_err-put g c =
    wrote_prefix _ _ _ _ c.from_residual-in_err-put.ensures.0
    (comma_fails cell_text _ _ _ _ _ _ c.loop-cell-test.true c.cell-item.is c.loop-cell.invariant _ c.in_err-put.ensures)

pub returns-in_err-put_cell-2 : goal.returns-in_err-put_cell-2
returns-in_err-put_cell-2 g c =
    wrote_prefix _ _ _ _ c.from_residual-in_err-put_cell-2.ensures.0
    (item_fails cell_text _ _ _ _ _ _ c.loop-cell-test.true c.cell-item.is c.loop-cell.invariant _ _ c.in_ok-put.ensures c.in_err-put_cell-2.ensures)

pub loop-cell-preserved : goal.loop-cell-preserved
loop-cell-preserved g c =
    item_more cell_text _ _ _ _ _ _ c.loop-cell-test.true c.cell-item.is c.loop-cell.invariant _ _ c.in_ok-put.ensures c.in_ok-put_cell-2.ensures
