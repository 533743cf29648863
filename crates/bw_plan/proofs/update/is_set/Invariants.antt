use Rattle.std.proofs.Common.{◌≡◌, drop}
use Rattle.std.specs.List.{list_any}
use Rattle.std.specs.Str.{bytes_eq}
use Rattle.bw_model.specs.Refusals.{set_columns}
use Rattle.bw_plan.proofs.update.is_set.Given as goal

-- those before this one aren't it
abbrev pub invariant-loop-set : goal.invariant-loop-set
invariant-loop-set l = list_any (bytes_eq l.name) (set_columns (drop l.set-index l.sets)) ≡ list_any (bytes_eq l.name) (set_columns l.sets)
