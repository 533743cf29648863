use Rattle.std.proofs.Common.{sym}
use Rattle.bw_model.specs.Changes.{with_choices}
use Rattle.bw_model.specs.Refusals.{rebuild_tests}
use Rattle.bw_engine.proofs.Replies.{says_done}
use Rattle.bw_engine.proofs.Steps.{changes_stored, changes_table, keeps_tables, no_table}
use Rattle.bw_engine.proofs.rebuild.rebuild.Goals as goal

pub returns-in-Some-clause-reply : goal.returns-in-Some-clause-reply
returns-in-Some-clause-reply c =
    let choices = c.args.statement.choices.items in
    changes_table c.args.tables.now.entries c.args.statement.table c.in-Some.table.now (sym c.in-Some.ensures.value) c.rebuild_columns.new.table _ (c.get_mut.follows.holds c.rebuild_columns.new.table).0
    (rebuild_tests choices) says_done (with_choices choices) c.rebuild_columns.result (rw c.as_slice.ensures.value at c.rebuild_columns.ensures.reply)

pub returns-in-Some-clause-refused : goal.returns-in-Some-clause-refused
returns-in-Some-clause-refused c =
    keeps_tables c.args.tables.now.entries c.args.statement.table c.in-Some.table.now (sym c.in-Some.ensures.value) c.rebuild_columns.new.table _ (c.get_mut.follows.holds c.rebuild_columns.new.table).0 c.rebuild_columns.result c.rebuild_columns.ensures.refused

pub returns-clause-reply : goal.returns-clause-reply
returns-clause-reply c = no_table c.args.tables.now.entries c.args.statement.table (rebuild_tests c.args.statement.choices.items) (sym c.in-None.ensures.value)

pub returns-in-Some-clause-stored : goal.returns-in-Some-clause-stored
returns-in-Some-clause-stored c =
    changes_stored c.args.tables.now.entries c.args.statement.table c.in-Some.table.now (sym c.in-Some.ensures.value) c.rebuild_columns.new.table _ (c.get_mut.follows.holds c.rebuild_columns.new.table).0 _ c.rebuild_columns.result (rw c.as_slice.ensures.value at c.rebuild_columns.ensures.stored)
