use Rattle.std.proofs.Common.{option_map, sym}
use Rattle.bw_sql.specs.Tree.{condition_of}
use Rattle.bw_model.specs.Changes.{without_found}
use Rattle.bw_model.specs.Refusals.{delete_tests}
use Rattle.bw_engine.proofs.Replies.{says_found}
use Rattle.bw_engine.proofs.Steps.{changes_stored, changes_table, keeps_tables, no_table}
use Rattle.bw_engine.proofs.delete.delete.Goals as goal

pub returns-in-Some-clause-reply : goal.returns-in-Some-clause-reply
returns-in-Some-clause-reply c =
    let condition = option_map condition_of c.args.statement.condition in
    changes_table c.args.tables.now.entries c.args.statement.table c.in-Some.table.now (sym c.in-Some.ensures.value) c.delete_rows.new.table _ (c.get_mut.follows.holds c.delete_rows.new.table).0
    (delete_tests condition) (says_found condition) (without_found condition) c.delete_rows.result c.delete_rows.ensures.reply

pub returns-in-Some-clause-refused : goal.returns-in-Some-clause-refused
returns-in-Some-clause-refused c =
    keeps_tables c.args.tables.now.entries c.args.statement.table c.in-Some.table.now (sym c.in-Some.ensures.value) c.delete_rows.new.table _ (c.get_mut.follows.holds c.delete_rows.new.table).0 c.delete_rows.result c.delete_rows.ensures.refused

pub returns-clause-reply : goal.returns-clause-reply
returns-clause-reply c = no_table c.args.tables.now.entries c.args.statement.table (delete_tests (option_map condition_of c.args.statement.condition)) (sym c.in-None.ensures.value)

pub returns-in-Some-clause-stored : goal.returns-in-Some-clause-stored
returns-in-Some-clause-stored c =
    changes_stored c.args.tables.now.entries c.args.statement.table c.in-Some.table.now (sym c.in-Some.ensures.value) c.delete_rows.new.table _ (c.get_mut.follows.holds c.delete_rows.new.table).0 _ c.delete_rows.result c.delete_rows.ensures.stored
