use Rattle.std.proofs.Common.{◌≡◌, take}
use Rattle.bw_model.specs.Select.{columns_in}
use Rattle.bw_model.proofs.select.columns_in.Given as goal

abbrev pub invariant-loop-item : goal.invariant-loop-item
invariant-loop-item l = l.columns.items ≡ columns_in (take l.item-index l.list)
