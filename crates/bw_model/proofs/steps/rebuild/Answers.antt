use Rattle.std.proofs.Common.{sym}
use Rattle.bw_model.proofs.Stores.{absent, not_rebuilt, rebuilt}
use Rattle.bw_model.proofs.steps.rebuild.Goals as goal

pub returns-in_default-clause-outcome : goal.returns-in_default-clause-outcome
returns-in_default-clause-outcome c =
    not_rebuilt c.args.tables.now c.args.rebuild.now.table c.args.rebuild.now.choices.items
    (absent c.args.rebuild.now.table c.args.tables.now (sym c.in_default.ensures))

pub returns-clause-outcome : goal.returns-clause-outcome
returns-clause-outcome c =
    rebuilt c.args.tables.now c.args.rebuild.now.table c.args.rebuild.now.choices.items c.in-Some.place c.index-tables-place.result c.rebuild_columns.new.table c.rebuild_columns.result
    (sym c.in-Some.ensures) c.index-tables-place.is
    (rw c.deref.ensures.value at c.rebuild_columns.ensures.outcome)
