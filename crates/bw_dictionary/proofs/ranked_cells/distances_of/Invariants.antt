use Rattle.std.proofs.Common.{length, map, take, ◌-◌, ◌≡◌, ◌≤◌}
use Rattle.bw_cells.specs.Distances.{distance_from}
use Rattle.bw_dictionary.proofs.ranked_cells.distances_of.Given as goal

-- those so far are measured
abbrev pub invariant-loop-at : goal.invariant-loop-at
invariant-loop-at g l = record {
  at : l.at ≤ length (g.C.Cells.cells l.cells);
  distances : l.distances.items ≡ map (distance_from l.base) (take l.at (g.C.Cells.cells l.cells));
}

abbrev pub decreases-loop-at : goal.decreases-loop-at
decreases-loop-at g l = length (g.C.Cells.cells l.cells) - l.at
