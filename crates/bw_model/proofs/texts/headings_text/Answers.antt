use Rattle.bw_model.specs.ReplyText.{heading_text}
use Rattle.bw_model.proofs.Commas.{first_and_others, next_item}
use Rattle.bw_model.proofs.texts.headings_text.Goals as goal

pub loop-heading-init : goal.loop-heading-init
loop-heading-init c =
    rw c.in_ok-text.ensures (first_and_others heading_text c.args.headings.now c.first-item.result c.in-len1-up.len_at_least c.first-item.is)

pub loop-heading-preserved : goal.loop-heading-preserved
loop-heading-preserved c =
    rw (c.in_ok-extend_from_slice.ensures.items, c.in_ok-push.ensures.items, c.deref.ensures.value, c.in_ok-heading_text.ensures)
    (next_item heading_text _ c.loop-heading.heading-index c.heading-item.result c.loop-heading.text.items _ c.loop-heading-test.true c.heading-item.is c.loop-heading.invariant)
