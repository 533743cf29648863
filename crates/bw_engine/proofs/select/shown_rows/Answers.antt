use Rattle.std.proofs.Common.{◌∙◌, ap, arith, length, option_map, refl, sym}
use Rattle.std.proofs.lemmas.List.{length-map}
use Rattle.bw_sql.specs.Tree.{condition_of, items_of, select_of}
use Rattle.bw_mask.specs.Masks.{row_at}
use Rattle.bw_model.specs.Select.{heading_of, lines_for, shown_items}
use Rattle.bw_model.specs.declared.reply.Reply.TheVariants.{Rows}
use Rattle.bw_plan.specs.Plans.{plan_of}
use Rattle.bw_engine.specs.Found.{rows_where}
use Rattle.bw_engine.specs.Stores.{rows_of_slots, table_in}
use Rattle.bw_engine.proofs.Folding.{lines_are, shown_within, width_is}
use Rattle.bw_engine.proofs.LiveLaws.{where_condition}
use Rattle.bw_engine.proofs.Shows.{answer_is}
use Rattle.bw_engine.proofs.select.shown_rows.Goals as goal

pub shown_answer-requires-clause-places : goal.shown_answer-requires-clause-places
shown_answer-requires-clause-places c =
    let table = c.args.table.now in
    let told = rw c.headers-headers.ensures.value at c.in_ok-plan.ensures.plan in
    shown_within table.headers (length table.headers) refl (shown_items table.headers (items_of c.args.query.items)) c.args.query.grouping c.in_ok-plan.plan.shown told.1.0

pub shown_answer-requires-clause-some : goal.shown_answer-requires-clause-some
shown_answer-requires-clause-some c =
    let table = c.args.table.now in
    let list = shown_items table.headers (items_of c.args.query.items) in
    let headed = rw c.headers-headers.ensures.value at c.in_ok-headings.ensures in
    let some = rw c.headers-headers.ensures.value at c.resolve_select.ensures.some in
    omega (arith, some, ap length headed, length-map list heading_of)

pub shown_answer-requires-clause-wide : goal.shown_answer-requires-clause-wide
shown_answer-requires-clause-wide c =
    let table = c.args.table.now in
    let list = shown_items table.headers (items_of c.args.query.items) in
    let headed = rw c.headers-headers.ensures.value at c.in_ok-headings.ensures in
    let told = rw c.headers-headers.ensures.value at c.in_ok-plan.ensures.plan in
    ap length headed ∙ length-map list heading_of ∙ sym (width_is table.headers list c.args.query.grouping c.in_ok-plan.plan.shown told.1.0)

pub returns : goal.returns
returns c =
    let table = c.args.table.now in
    let headers = table.headers in
    let query = select_of c.args.query in
    let plan = option_map plan_of c.in_ok-plan.plan.condition in
    let list = shown_items headers query.items in
    let told = rw c.headers-headers.ensures.value at c.in_ok-plan.ensures.plan in
    let headed = rw c.headers-headers.ensures.value at c.in_ok-headings.ensures in
    let rows = rows_where (row_at c.in_ok-found.found) (rows_of_slots table.slots) in (
      told.0,
      ap (λ shows. Rows shows) (answer_is (table_in table) query _ (c.in_ok-shown_answer.ensures.headings ∙ headed)
          (c.in_ok-shown_answer.ensures.lines ∙ lines_are headers list query.grouping c.in_ok-plan.plan.shown rows told.1.0
          ∙ ap (lines_for headers list query.grouping) (where_condition headers query.condition plan told.1.1 table.slots c.in_ok-found.found c.in_ok-found.ensures.found))),
    )
