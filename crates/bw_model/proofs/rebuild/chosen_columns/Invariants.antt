use Rattle.std.proofs.Common.{◌≡◌, take}
use Rattle.bw_model.specs.Refusals.{chosen_columns}
use Rattle.bw_model.proofs.rebuild.chosen_columns.Given as goal

abbrev pub invariant-loop-choice : goal.invariant-loop-choice
invariant-loop-choice l = l.columns.items ≡ chosen_columns (take l.choice-index l.choices)
