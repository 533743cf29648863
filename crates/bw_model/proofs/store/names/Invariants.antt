use Rattle.std.proofs.Common.{◌≡◌, take}
use Rattle.bw_model.specs.Store.{names}
use Rattle.bw_model.proofs.store.names.Given as goal

abbrev pub invariant-loop-header : goal.invariant-loop-header
invariant-loop-header l = l.list.items ≡ names (take l.header-index l.headers)
