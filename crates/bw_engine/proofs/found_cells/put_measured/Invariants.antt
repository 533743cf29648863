use Rattle.std.proofs.Common.{List, Option, pos, take, ℤ, ◌<◌, ◌≡◌}
use Rattle.bw_groups.specs.Runs.{IsMeasured}
use Rattle.bw_engine.proofs.found_cells.put_measured.Given as goal

-- the values before value i are put
abbrev pub invariant-values : goal.invariant-values
invariant-values l = (values : List (Option ℤ)) → IsMeasured (pos 0) values l.measured.len l.measured.present l.distances → l.run.items ≡ take l.i values
