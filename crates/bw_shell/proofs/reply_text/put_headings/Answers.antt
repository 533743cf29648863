use Rattle.bw_model.specs.ReplyText.{heading_text}
use Rattle.bw_shell.proofs.Items.{comma_fails, first_fails, first_written, item_fails, item_more}
use Rattle.bw_shell.proofs.Texts.{wrote_prefix}
use Rattle.bw_shell.proofs.reply_text.put_headings.Goals as goal

pub returns-in_err-put_heading : goal.returns-in_err-put_heading
returns-in_err-put_heading g c =
    wrote_prefix _ _ _ _ c.from_residual.ensures.0 (first_fails heading_text _ _ _ _ c.in-len1-up.len_at_least c.first-item.is c.in_err-put_heading.ensures)

pub loop-heading-init : goal.loop-heading-init
loop-heading-init g c = first_written heading_text _ _ _ _ c.in-len1-up.len_at_least c.first-item.is c.in_ok-put_heading.ensures

pub returns-in_err-put : goal.returns-in_err-put
returns-in_err-put g c =
    wrote_prefix _ _ _ _ c.from_residual-in_err-put.ensures.0
    (comma_fails heading_text _ _ _ _ _ _ c.loop-heading-test.true c.heading-item.is c.loop-heading.invariant _ c.in_err-put.ensures)

pub returns-in_err-put_heading-2 : goal.returns-in_err-put_heading-2
returns-in_err-put_heading-2 g c =
    wrote_prefix _ _ _ _ c.from_residual-in_err-put_heading-2.ensures.0
    (item_fails heading_text _ _ _ _ _ _ c.loop-heading-test.true c.heading-item.is c.loop-heading.invariant _ _ c.in_ok-put.ensures c.in_err-put_heading-2.ensures)

pub loop-heading-preserved : goal.loop-heading-preserved
loop-heading-preserved g c =
    item_more heading_text _ _ _ _ _ _ c.loop-heading-test.true c.heading-item.is c.loop-heading.invariant _ _ c.in_ok-put.ensures c.in_ok-put_heading-2.ensures
