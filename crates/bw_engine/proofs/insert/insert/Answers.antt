use Rattle.std.proofs.Common.{length, sym}
use Rattle.bw_model.specs.Insert.{target_columns, with_rows}
use Rattle.bw_model.specs.Refusals.{insert_tests}
use Rattle.bw_model.specs.declared.reply.Reply.TheVariants.{Count}
use Rattle.bw_engine.proofs.Steps.{changes_stored, changes_table, keeps_tables, no_table}
use Rattle.bw_engine.proofs.insert.insert.Goals as goal

pub returns-in-Some-clause-reply : goal.returns-in-Some-clause-reply
returns-in-Some-clause-reply c =
    let rows = c.args.statement.rows in
    let listed = c.args.statement.columns in
    changes_table c.args.tables.now.entries c.args.statement.table c.in-Some.table.now (sym c.in-Some.ensures.value) c.insert_rows.new.table _ (c.get_mut.follows.holds c.insert_rows.new.table).0
    (λ table. insert_tests (target_columns table.headers listed) rows table) (λ table. Count (length rows)) (with_rows listed rows) c.insert_rows.result c.insert_rows.ensures.reply

pub returns-in-Some-clause-refused : goal.returns-in-Some-clause-refused
returns-in-Some-clause-refused c =
    keeps_tables c.args.tables.now.entries c.args.statement.table c.in-Some.table.now (sym c.in-Some.ensures.value) c.insert_rows.new.table _ (c.get_mut.follows.holds c.insert_rows.new.table).0 c.insert_rows.result c.insert_rows.ensures.refused

pub returns-clause-reply : goal.returns-clause-reply
returns-clause-reply c =
    no_table c.args.tables.now.entries c.args.statement.table (λ table. insert_tests (target_columns table.headers c.args.statement.columns) c.args.statement.rows table) (sym c.in-None.ensures.value)

pub returns-in-Some-clause-stored : goal.returns-in-Some-clause-stored
returns-in-Some-clause-stored c =
    changes_stored c.args.tables.now.entries c.args.statement.table c.in-Some.table.now (sym c.in-Some.ensures.value) c.insert_rows.new.table _ (c.get_mut.follows.holds c.insert_rows.new.table).0 _ c.insert_rows.result c.insert_rows.ensures.stored
