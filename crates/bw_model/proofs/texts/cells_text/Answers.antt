use Rattle.bw_model.specs.ReplyText.{cell_text}
use Rattle.bw_model.proofs.Commas.{first_and_others, next_item}
use Rattle.bw_model.proofs.texts.cells_text.Goals as goal

pub loop-cell-init : goal.loop-cell-init
loop-cell-init c =
    rw c.in_ok-text.ensures (first_and_others cell_text c.args.cells.now c.first-item.result c.in-len1-up.len_at_least c.first-item.is)

pub loop-cell-preserved : goal.loop-cell-preserved
loop-cell-preserved c =
    rw (c.in_ok-extend_from_slice.ensures.items, c.in_ok-push.ensures.items, c.deref.ensures.value, c.in_ok-cell_text.ensures)
    (next_item cell_text _ c.loop-cell.cell-index c.cell-item.result c.loop-cell.text.items _ c.loop-cell-test.true c.cell-item.is c.loop-cell.invariant)
