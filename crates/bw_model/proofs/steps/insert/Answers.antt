use Rattle.std.proofs.Common.{sym}
use Rattle.bw_model.proofs.Stores.{absent, inserted, not_inserted}
use Rattle.bw_model.proofs.steps.insert.Goals as goal

pub returns-in_default-clause-outcome : goal.returns-in_default-clause-outcome
returns-in_default-clause-outcome c =
    not_inserted c.args.tables.now c.args.insert.now.table c.args.insert.now.columns c.args.insert.now.rows
    (absent c.args.insert.now.table c.args.tables.now (sym c.in_default.ensures))

pub returns-clause-outcome : goal.returns-clause-outcome
returns-clause-outcome c =
    inserted c.args.tables.now c.args.insert.now.table c.args.insert.now.columns c.args.insert.now.rows c.in-Some.place c.index-tables-place.result c.insert_rows.new.table c.insert_rows.result
    (sym c.in-Some.ensures) c.index-tables-place.is
    (rw (c.deref.ensures.value, c.in_ok-rows.ensures) at c.insert_rows.ensures.outcome)
