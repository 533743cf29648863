use Rattle.std.proofs.Common.{◌≡◌, map}
use Rattle.bw_sql.specs.declared.tree.SelectItem.TheVariants.{Column}
use Rattle.bw_model.proofs.select.columns_shown.Given as goal

abbrev pub invariant-loop-name : goal.invariant-loop-name
invariant-loop-name l = l.items.items ≡ map (λ name. Column name) l.yielded
