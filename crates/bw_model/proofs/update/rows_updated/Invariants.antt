use Rattle.std.proofs.Common.{◌≡◌, map, option_map, take}
use Rattle.bw_sql.specs.Tree.{condition_of}
use Rattle.bw_model.specs.Changes.{updated_if_found}
use Rattle.bw_model.proofs.update.rows_updated.Given as goal

abbrev pub invariant-loop-row : goal.invariant-loop-row
invariant-loop-row l = l.rows.items ≡ map (updated_if_found l.table.headers l.sets (option_map condition_of l.condition)) (take l.row-index l.row-items)
