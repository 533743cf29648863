use Rattle.std.proofs.Common.{◌≡◌, take}
use Rattle.bw_model.proofs.store.same_headers.Given as goal

abbrev pub invariant-loop-header : goal.invariant-loop-header
invariant-loop-header l = l.list.items ≡ take l.header-index l.headers
