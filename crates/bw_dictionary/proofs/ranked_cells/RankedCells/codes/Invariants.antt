use Rattle.std.proofs.Common.{length, map, take, ◌-◌, ◌≡◌, ◌≤◌}
use Rattle.bw_dictionary.specs.Moving.{moved_place}
use Rattle.bw_dictionary.proofs.ranked_cells.RankedCells.codes.Given as goal

-- those so far have codes
abbrev pub invariant-loop-at : goal.invariant-loop-at
invariant-loop-at g l = record {
  at : l.at ≤ length (g.C.Cells.cells l.cells);
  codes : l.codes.items ≡ map (moved_place l.table l.self.entries.items) (take l.at (g.C.Cells.cells l.cells));
}

abbrev pub decreases-loop-at : goal.decreases-loop-at
decreases-loop-at g l = length (g.C.Cells.cells l.cells) - l.at
