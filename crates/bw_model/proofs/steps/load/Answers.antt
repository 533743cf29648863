use Rattle.std.proofs.Common.{sym}
use Rattle.bw_model.proofs.Stores.{absent, loaded, not_loaded}
use Rattle.bw_model.proofs.steps.load.Goals as goal

pub returns-in_default-clause-outcome : goal.returns-in_default-clause-outcome
returns-in_default-clause-outcome c =
    not_loaded c.args.tables.now c.args.said.now c.args.request.now.table c.args.request.now.file c.args.request.now.first
    (absent c.args.request.now.table c.args.tables.now (sym c.in_default.ensures))

pub returns-clause-outcome : goal.returns-clause-outcome
returns-clause-outcome c =
    loaded c.args.tables.now c.args.said.now c.args.request.now.table c.args.request.now.file c.args.request.now.first c.in-Some.place c.index-tables-place.result c.load_lines.new.table c.load_lines.result
    (sym c.in-Some.ensures) c.index-tables-place.is
    c.load_lines.ensures.outcome
