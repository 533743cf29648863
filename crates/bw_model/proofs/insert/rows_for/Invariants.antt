use Rattle.std.proofs.Common.{◌≡◌, map, take}
use Rattle.bw_model.specs.Insert.{row_for}
use Rattle.bw_model.proofs.insert.rows_for.Given as goal

abbrev pub invariant-loop-values : goal.invariant-loop-values
invariant-loop-values l = l.new.items ≡ map (row_for l.headers l.list) (take l.values-index l.rows)
