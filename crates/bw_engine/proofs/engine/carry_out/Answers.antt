use Rattle.std.proofs.Common.{refl}
use Rattle.bw_sql.specs.Tree.{statement_of}
use Rattle.bw_sql.specs.declared.tree.Statement.TheVariants as statements
use Rattle.bw_model.specs.declared.content.Content.TheVariants.{Nothing}
use Rattle.bw_engine.specs.Counting.{said_of}
use Rattle.bw_engine.proofs.Executed.{leaves, leaves_all, leaves_reading, leaves_saving, plain, reading, saving}
use Rattle.bw_engine.proofs.engine.carry_out.Goals as goal

pub returns-in-Load-clause-outcome : goal.returns-in-Load-clause-outcome
returns-in-Load-clause-outcome c =
    rw (c.in-Load.is, c.replied-in-Load.ensures)
    (reading c.args.tables.now.entries c.load.new.tables.entries (statement_of (statements.Load c.in-Load.request)) c.args.file c.in-Load.request.file refl c.load.result c.load.ensures.reply c.load.ensures.refused)

pub returns-in-Open-clause-outcome : goal.returns-in-Open-clause-outcome
returns-in-Open-clause-outcome c =
    rw (c.in-Open.is, c.replied-in-Open.ensures)
    (reading c.args.tables.now.entries c.open_table.new.tables.entries (statement_of (statements.Open c.in-Open.request)) c.args.file c.in-Open.request.file refl c.open_table.result c.open_table.ensures.reply c.open_table.ensures.refused)

pub returns-in-Save-clause-outcome : goal.returns-in-Save-clause-outcome
returns-in-Save-clause-outcome c =
    rw (c.in-Save.is, c.saved.ensures)
    (saving c.args.tables.now.entries c.in-Save.request.table c.in-Save.request.file c.args.file c.save.result c.save.ensures)

pub returns-in-Update-clause-outcome : goal.returns-in-Update-clause-outcome
returns-in-Update-clause-outcome c =
    rw (c.in-Update.is, c.replied-in-Update.ensures)
    (plain c.args.tables.now.entries c.update.new.tables.entries (statement_of (statements.Update c.in-Update.change)) c.args.file c.update.result refl c.update.ensures.reply c.update.ensures.refused)

pub returns-in-CreateTable-clause-stored : goal.returns-in-CreateTable-clause-stored
returns-in-CreateTable-clause-stored c =
    rw (c.in-CreateTable.is, c.replied.ensures)
    (leaves c.args.tables.now.entries c.create_table.new.tables.entries Nothing (statement_of (statements.CreateTable c.in-CreateTable.create)) c.create_table.result c.create_table.ensures.reply c.create_table.ensures.refused c.create_table.ensures.stored)

pub returns-in-DropTable-clause-stored : goal.returns-in-DropTable-clause-stored
returns-in-DropTable-clause-stored c =
    rw (c.in-DropTable.is, c.replied-in-DropTable.ensures)
    (leaves c.args.tables.now.entries c.drop_table.new.tables.entries Nothing (statement_of (statements.DropTable c.in-DropTable.name)) c.drop_table.result c.drop_table.ensures.reply c.drop_table.ensures.refused c.drop_table.ensures.stored)

pub returns-in-ListTables-clause-stored : goal.returns-in-ListTables-clause-stored
returns-in-ListTables-clause-stored c =
    rw (c.in-ListTables.is, c.replied-in-ListTables.ensures)
    (leaves_all c.args.tables.now.entries Nothing (statement_of statements.ListTables) c.list_tables.result c.list_tables.ensures refl)

pub returns-in-Insert-clause-stored : goal.returns-in-Insert-clause-stored
returns-in-Insert-clause-stored c =
    rw (c.in-Insert.is, c.replied-in-Insert.ensures)
    (leaves c.args.tables.now.entries c.insert.new.tables.entries Nothing (statement_of (statements.Insert c.in-Insert.rows)) c.insert.result c.insert.ensures.reply c.insert.ensures.refused c.insert.ensures.stored)

pub returns-in-Update-clause-stored : goal.returns-in-Update-clause-stored
returns-in-Update-clause-stored c =
    rw (c.in-Update.is, c.replied-in-Update.ensures)
    (leaves c.args.tables.now.entries c.update.new.tables.entries Nothing (statement_of (statements.Update c.in-Update.change)) c.update.result c.update.ensures.reply c.update.ensures.refused c.update.ensures.stored)

pub returns-in-Delete-clause-stored : goal.returns-in-Delete-clause-stored
returns-in-Delete-clause-stored c =
    rw (c.in-Delete.is, c.replied-in-Delete.ensures)
    (leaves c.args.tables.now.entries c.delete.new.tables.entries Nothing (statement_of (statements.Delete c.in-Delete.change)) c.delete.result c.delete.ensures.reply c.delete.ensures.refused c.delete.ensures.stored)

pub returns-in-Rebuild-clause-stored : goal.returns-in-Rebuild-clause-stored
returns-in-Rebuild-clause-stored c =
    rw (c.in-Rebuild.is, c.replied-in-Rebuild.ensures)
    (leaves c.args.tables.now.entries c.rebuild.new.tables.entries Nothing (statement_of (statements.Rebuild c.in-Rebuild.change)) c.rebuild.result c.rebuild.ensures.reply c.rebuild.ensures.refused c.rebuild.ensures.stored)

pub returns-in-Select-clause-stored : goal.returns-in-Select-clause-stored
returns-in-Select-clause-stored c =
    rw (c.in-Select.is, c.replied-in-Select.ensures)
    (leaves_all c.args.tables.now.entries Nothing (statement_of (statements.Select c.in-Select.query)) c.select.result c.select.ensures refl)

pub returns-in-Stats-clause-stored : goal.returns-in-Stats-clause-stored
returns-in-Stats-clause-stored c =
    rw (c.in-Stats.is, c.replied-in-Stats.ensures)
    (leaves_all c.args.tables.now.entries (said_of c.args.tables.now.entries (statement_of (statements.Stats c.in-Stats.query))) (statement_of (statements.Stats c.in-Stats.query)) c.stats.result c.stats.ensures refl)

pub returns-in-Load-clause-stored : goal.returns-in-Load-clause-stored
returns-in-Load-clause-stored c =
    rw (c.in-Load.is, c.replied-in-Load.ensures)
    (leaves_reading c.args.tables.now.entries c.load.new.tables.entries (statement_of (statements.Load c.in-Load.request)) c.args.file c.load.result c.load.ensures.reply c.load.ensures.refused c.load.ensures.stored)

pub returns-in-Open-clause-stored : goal.returns-in-Open-clause-stored
returns-in-Open-clause-stored c =
    rw (c.in-Open.is, c.replied-in-Open.ensures)
    (leaves_reading c.args.tables.now.entries c.open_table.new.tables.entries (statement_of (statements.Open c.in-Open.request)) c.args.file c.open_table.result c.open_table.ensures.reply c.open_table.ensures.refused c.open_table.ensures.stored)

pub returns-in-Save-clause-stored : goal.returns-in-Save-clause-stored
returns-in-Save-clause-stored c =
    rw (c.in-Save.is, c.saved.ensures)
    (leaves_saving c.args.tables.now.entries (statement_of (statements.Save c.in-Save.request)) c.save.result)
