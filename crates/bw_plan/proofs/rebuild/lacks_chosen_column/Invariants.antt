use Rattle.std.proofs.Common.{◌≡◌, drop}
use Rattle.std.specs.List.{list_any}
use Rattle.bw_model.specs.Refusals.{chosen_columns, is_missing}
use Rattle.bw_plan.proofs.rebuild.lacks_chosen_column.Given as goal

-- those before this one aren't it
abbrev pub invariant-loop-choice : goal.invariant-loop-choice
invariant-loop-choice l = list_any (is_missing l.headers) (chosen_columns (drop l.choice-index l.choices)) ≡ list_any (is_missing l.headers) (chosen_columns l.choices)
