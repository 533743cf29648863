use Rattle.std.proofs.Common.{ap, sym, ◌∙◌}
use Rattle.std.specs.List.{list_any}
use Rattle.bw_model.specs.Refusals.{is_missing}
use Rattle.bw_model.specs.Select.{columns_in}
use Rattle.bw_plan.proofs.Places.{none_missing_item, some_items}
use Rattle.bw_plan.proofs.Selecting.{any_column}
use Rattle.bw_plan.proofs.select.lacks_shown.Goals as goal

pub returns-in-All-clause-some : goal.returns-in-All-clause-some
returns-in-All-clause-some c = rw c.in-All.is (some_items c.args.headers.now c.requires)

pub returns-in-All-clause-lacks : goal.returns-in-All-clause-lacks
returns-in-All-clause-lacks c = rw c.in-All.is (sym (none_missing_item c.args.headers.now c.requires))

pub returns-in-List-clause-lacks : goal.returns-in-List-clause-lacks
returns-in-List-clause-lacks c =
    let headers = c.args.headers.now in
    rw c.in-List.is (c.lacks_column.ensures ∙ any_column headers c.as_slice.result.now ∙ ap (λ l. list_any (is_missing headers) (columns_in l)) c.as_slice.ensures.value)
