use Rattle.std.proofs.Common.{refl}
use Rattle.bw_sql.specs.Tree.{select_of}
use Rattle.bw_model.proofs.Answered.{answer_is, whole_answer}
use Rattle.bw_model.proofs.select.answer_of.Goals as goal

pub new-requires : goal.new-requires
new-requires c =
    whole_answer c.args.table.now c.in_ok-list.list.items c.args.query.now.grouping _ _ _ c.in_ok-list.ensures.some c.in_ok-headings.ensures
    (rw (c.headers-headers.ensures.value, c.deref.ensures.value, c.deref-2.ensures.value) at c.in_ok-cells.ensures)

pub returns : goal.returns
returns c =
    answer_is c.args.table.now c.in_ok-list.list.items c.args.query.now.grouping _ _ _ c.in_ok-list.ensures.some c.in_ok-headings.ensures
    (rw (c.headers-headers.ensures.value, c.deref.ensures.value, c.deref-2.ensures.value) at c.in_ok-cells.ensures)
    (select_of c.args.query.now) c.new.result
    (rw c.headers-headers.ensures.value at c.in_ok-list.ensures.items) refl c.in_ok-rows.ensures c.new.ensures.headings c.new.ensures.lines
