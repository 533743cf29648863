use Rattle.std.proofs.Common.{◌≡◌, map, take}
use Rattle.bw_model.specs.Groups.{rows_having}
use Rattle.bw_model.proofs.groups.rows_having.Given as goal

abbrev pub invariant-loop-row : goal.invariant-loop-row
invariant-loop-row l = map (λ row. row.now) l.found.items ≡ rows_having l.place l.value (map (λ row. row.now) (take l.row-index l.rows))
