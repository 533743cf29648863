use Rattle.std.proofs.Common.{ap, subst, ◌∙◌}
use Rattle.std.specs.List.{items_where_true}
use Rattle.bw_cells.specs.SetFunctions.{known}
use Rattle.bw_aggregate.specs.Summaries.{IsSummary}
use Rattle.bw_engine.proofs.Folding.{chosen_found, tells_all}
use Rattle.bw_engine.proofs.set_functions.column_summary.Goals as goal

pub returns-clause-tells : goal.returns-clause-tells
returns-clause-tells c =
    let found = c.args.found.now in
    let place = c.args.place in
    let same = ap (λ values. known (items_where_true found.rows values)) c.column.ensures.values ∙ chosen_found c.args.table.now.slots found c.requires.found place in
    tells_all c.args.functions.now place c.asked_of-asked.result c.in_ok-summary.summary _ c.asked_of-asked.ensures (subst (λ values. IsSummary c.asked_of-asked.result values c.in_ok-summary.summary) same c.in_ok-summary.ensures)
