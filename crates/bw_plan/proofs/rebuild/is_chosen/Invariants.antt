use Rattle.std.proofs.Common.{◌≡◌, drop}
use Rattle.std.specs.List.{list_any}
use Rattle.std.specs.Str.{bytes_eq}
use Rattle.bw_model.specs.Refusals.{chosen_columns}
use Rattle.bw_plan.proofs.rebuild.is_chosen.Given as goal

-- those before this one aren't it
abbrev pub invariant-loop-choice : goal.invariant-loop-choice
invariant-loop-choice l = list_any (bytes_eq l.name) (chosen_columns (drop l.choice-index l.choices)) ≡ list_any (bytes_eq l.name) (chosen_columns l.choices)
