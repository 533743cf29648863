use Rattle.std.proofs.Common.{◌≡◌, take}
use Rattle.bw_model.proofs.select.copied.Given as goal

abbrev pub invariant-loop-item : goal.invariant-loop-item
invariant-loop-item l = l.list.items ≡ take l.item-index l.items
