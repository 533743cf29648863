use Rattle.std.proofs.Common.{◌≡◌, take}
use Rattle.bw_model.specs.Refusals.{set_columns}
use Rattle.bw_model.proofs.update.set_columns.Given as goal

abbrev pub invariant-loop-set : goal.invariant-loop-set
invariant-loop-set l = l.columns.items ≡ set_columns (take l.set-index l.sets)
