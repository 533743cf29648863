use Rattle.std.proofs.Common.{length, take, ◌-◌, ◌≤◌}
use Rattle.bw_code.specs.Fittings.{AreEnds}
use Rattle.bw_cells.specs.Known.{known}
use Rattle.bw_cells.proofs.ends.ends_in_runs.Given as goal

-- the ends of the cells so far
abbrev pub invariant-loop-at : goal.invariant-loop-at
invariant-loop-at g l = record {
  at : l.at ≤ length (g.C.Cells.cells l.cells);
  ends : AreEnds (known (take l.at (g.C.Cells.cells l.cells))) l.ends;
}

abbrev pub decreases-loop-at : goal.decreases-loop-at
decreases-loop-at g l = length (g.C.Cells.cells l.cells) - l.at
