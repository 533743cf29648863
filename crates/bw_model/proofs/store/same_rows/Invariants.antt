use Rattle.std.proofs.Common.{◌≡◌, take}
use Rattle.bw_model.proofs.store.same_rows.Given as goal

abbrev pub invariant-loop-row : goal.invariant-loop-row
invariant-loop-row l = l.list.items ≡ take l.row-index l.rows
