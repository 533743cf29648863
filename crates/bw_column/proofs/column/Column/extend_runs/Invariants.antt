use Rattle.std.proofs.Common.{drop, length, take, ◌++◌, ◌-◌, ◌≡◌, ◌≤◌}
use Rattle.bw_column.proofs.column.Column.extend_runs.Given as goal

-- the cells so far are appended
abbrev pub invariant-loop-done : goal.invariant-loop-done
invariant-loop-done g l = record {
  done : l.done ≤ l.n;
  values : l.self.values ≡ l.fn.self.values ++ take l.done (drop l.at (g.C.Cells.cells l.cells));
  room : l.fn.self.room ≤ l.self.room;
  layout : l.self.layout ≡ l.fn.self.layout;
  encoding : l.self.encoding ≡ l.fn.self.encoding;
  long : length l.list ≡ 64;
}

abbrev pub decreases-loop-done : goal.decreases-loop-done
decreases-loop-done g l = l.n - l.done
