use Rattle.std.proofs.Common.{◌≡◌, take}
use Rattle.bw_model.proofs.insert.copied.Given as goal

abbrev pub invariant-loop-name : goal.invariant-loop-name
invariant-loop-name l = l.list.items ≡ take l.name-index l.names
