use Rattle.std.proofs.Common.{◌≡◌, drop}
use Rattle.std.specs.List.{list_any}
use Rattle.bw_model.specs.Refusals.{set_columns, is_missing}
use Rattle.bw_plan.proofs.update.lacks_set_column.Given as goal

-- those before this one aren't it
abbrev pub invariant-loop-set : goal.invariant-loop-set
invariant-loop-set l = list_any (is_missing l.headers) (set_columns (drop l.set-index l.sets)) ≡ list_any (is_missing l.headers) (set_columns l.sets)
