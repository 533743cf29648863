use Rattle.std.proofs.Common.{◌≡◌, map}
use Rattle.bw_model.specs.Groups.{rows_having}
use Rattle.bw_model.proofs.groups.groups_by.Given as goal

abbrev pub invariant-loop-value : goal.invariant-loop-value
invariant-loop-value l = l.groups.items ≡ map (λ value. record { value = value; rows = rows_having l.place value (map (λ row. row.now) l.rows) }) l.yielded
