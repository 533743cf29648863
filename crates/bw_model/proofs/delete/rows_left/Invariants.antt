use Rattle.std.proofs.Common.{◌≡◌, filter, not, option_map, take}
use Rattle.bw_sql.specs.Tree.{condition_of}
use Rattle.bw_model.specs.Condition.{is_found}
use Rattle.bw_model.proofs.delete.rows_left.Given as goal

abbrev pub invariant-loop-row : goal.invariant-loop-row
invariant-loop-row l = l.rows.items ≡ filter (λ row. not (is_found l.table.headers (option_map condition_of l.condition) row)) (take l.row-index l.row-items)
