use Rattle.std.proofs.Common.{inr, option_map, sym}
use Rattle.bw_sql.specs.Tree.{condition_of}
use Rattle.bw_model.specs.Changes.{with_updates}
use Rattle.bw_model.specs.Refusals.{set_tests, update_tests}
use Rattle.bw_engine.proofs.Replies.{says_found}
use Rattle.bw_engine.proofs.Steps.{changes_after, changes_stored, first_no_table, keeps_tables}
use Rattle.bw_engine.proofs.update.update.Goals as goal

pub returns-in-Some-clause-reply : goal.returns-in-Some-clause-reply
returns-in-Some-clause-reply c =
    let sets = c.args.statement.sets.items in
    let condition = option_map condition_of c.args.statement.condition in
    changes_after c.args.tables.now.entries c.args.statement.table c.in-Some.table.now (sym c.in-Some.ensures.value) c.update_rows.new.table _ (c.get_mut.follows.holds c.update_rows.new.table).0
    (λ table. set_tests table.headers sets condition) (update_tests sets condition) (says_found condition) (with_updates sets condition) c.update_rows.result (rw c.as_slice.ensures.value at c.update_rows.ensures.reply)

pub returns-in-Some-clause-refused : goal.returns-in-Some-clause-refused
returns-in-Some-clause-refused c =
    keeps_tables c.args.tables.now.entries c.args.statement.table c.in-Some.table.now (sym c.in-Some.ensures.value) c.update_rows.new.table _ (c.get_mut.follows.holds c.update_rows.new.table).0 c.update_rows.result c.update_rows.ensures.refused

pub returns-clause-reply : goal.returns-clause-reply
returns-clause-reply c = inr (first_no_table c.args.tables.now.entries c.args.statement.table (update_tests c.args.statement.sets.items (option_map condition_of c.args.statement.condition)) (sym c.in-None.ensures.value))

pub returns-in-Some-clause-stored : goal.returns-in-Some-clause-stored
returns-in-Some-clause-stored c =
    changes_stored c.args.tables.now.entries c.args.statement.table c.in-Some.table.now (sym c.in-Some.ensures.value) c.update_rows.new.table _ (c.get_mut.follows.holds c.update_rows.new.table).0 _ c.update_rows.result (rw c.as_slice.ensures.value at c.update_rows.ensures.stored)
