use Rattle.std.proofs.Common.{sym}
use Rattle.bw_engine.proofs.Loading.{loads_none, loads_table}
use Rattle.bw_engine.proofs.Steps.{changes_stored, keeps_tables}
use Rattle.bw_engine.proofs.load.load.Goals as goal

pub returns-in-Some-clause-reply : goal.returns-in-Some-clause-reply
returns-in-Some-clause-reply c =
    loads_table c.args.tables.now.entries c.args.statement.table c.args.statement.file c.args.statement.first c.in-Some.table.now c.load_file.new.table (sym c.in-Some.ensures.value) _ (c.get_mut.follows.holds c.load_file.new.table).0
    c.args.file c.load_file.result c.load_file.ensures.reply

pub returns-in-Some-clause-refused : goal.returns-in-Some-clause-refused
returns-in-Some-clause-refused c =
    keeps_tables c.args.tables.now.entries c.args.statement.table c.in-Some.table.now (sym c.in-Some.ensures.value) c.load_file.new.table _ (c.get_mut.follows.holds c.load_file.new.table).0 c.load_file.result c.load_file.ensures.refused

pub returns-clause-reply : goal.returns-clause-reply
returns-clause-reply c =
    loads_none c.args.tables.now.entries c.args.statement.table c.args.statement.file c.args.statement.first c.args.file c.get_mut.follows.lender-at-none.entries (sym c.in-None.ensures.value)

pub returns-in-Some-clause-stored : goal.returns-in-Some-clause-stored
returns-in-Some-clause-stored c =
    changes_stored c.args.tables.now.entries c.args.statement.table c.in-Some.table.now (sym c.in-Some.ensures.value) c.load_file.new.table _ (c.get_mut.follows.holds c.load_file.new.table).0 _ c.load_file.result c.load_file.ensures.stored
