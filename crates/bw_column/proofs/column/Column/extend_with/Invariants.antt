use Rattle.std.proofs.Common.{drop, length, ◌++◌, ◌-◌, ◌≡◌, ◌≤◌}
use Rattle.bw_column.proofs.column.Column.extend_with.Given as goal

-- the values so far, and the cells left after them
abbrev pub invariant-loop-at : goal.invariant-loop-at
invariant-loop-at g l = record {
  at : l.at ≤ length (g.C.Cells.cells l.cells);
  values : l.self.values ++ drop l.at (g.C.Cells.cells l.cells) ≡ l.fn.self.values ++ g.C.Cells.cells l.cells;
  room : l.fn.self.room ≤ l.self.room;
  layout : l.self.layout ≡ l.fn.self.layout;
  encoding : l.self.encoding ≡ l.fn.self.encoding;
}

abbrev pub decreases-loop-at : goal.decreases-loop-at
decreases-loop-at g l = length (g.C.Cells.cells l.cells) - l.at
