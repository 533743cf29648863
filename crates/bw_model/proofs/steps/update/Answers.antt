use Rattle.std.proofs.Common.{option_map, sym}
use Rattle.bw_sql.specs.Tree.{condition_of}
use Rattle.bw_model.proofs.Stores.{absent, not_updated, updated}
use Rattle.bw_model.proofs.steps.update.Goals as goal

pub returns-in_default-clause-outcome : goal.returns-in_default-clause-outcome
returns-in_default-clause-outcome c =
    not_updated c.args.tables.now c.args.update.now.table c.args.update.now.sets.items (option_map condition_of c.args.update.now.condition)
    (absent c.args.update.now.table c.args.tables.now (sym c.in_default.ensures))

pub returns-clause-outcome : goal.returns-clause-outcome
returns-clause-outcome c =
    updated c.args.tables.now c.args.update.now.table c.args.update.now.sets.items (option_map condition_of c.args.update.now.condition) c.in-Some.place c.index-tables-place.result c.update_rows.new.table c.update_rows.result
    (sym c.in-Some.ensures) c.index-tables-place.is
    (rw c.deref.ensures.value at c.update_rows.ensures.outcome)
