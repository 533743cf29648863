use Rattle.std.proofs.Common.{map, take, ◌++◌, ◌≡◌}
use Rattle.bw_column.specs.Values.{value_at}
use Rattle.bw_engine.proofs.shown.show_row.Given as goal

-- the values of the runs so far
abbrev pub invariant-loop-run : goal.invariant-loop-run
invariant-loop-run l = l.values.items ≡ l.fn.values.items ++ map (λ values. value_at values l.i) (take l.run-index l.runs)
