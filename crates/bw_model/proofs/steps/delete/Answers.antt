use Rattle.std.proofs.Common.{option_map, sym}
use Rattle.bw_sql.specs.Tree.{condition_of}
use Rattle.bw_model.proofs.Stores.{absent, not_deleted, deleted}
use Rattle.bw_model.proofs.steps.delete.Goals as goal

pub returns-in_default-clause-outcome : goal.returns-in_default-clause-outcome
returns-in_default-clause-outcome c =
    not_deleted c.args.tables.now c.args.delete.now.table (option_map condition_of c.args.delete.now.condition)
    (absent c.args.delete.now.table c.args.tables.now (sym c.in_default.ensures))

pub returns-clause-outcome : goal.returns-clause-outcome
returns-clause-outcome c =
    deleted c.args.tables.now c.args.delete.now.table (option_map condition_of c.args.delete.now.condition) c.in-Some.place c.index-tables-place.result c.delete_rows.new.table c.delete_rows.result
    (sym c.in-Some.ensures) c.index-tables-place.is
    c.delete_rows.ensures.outcome
