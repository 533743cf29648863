use Rattle.std.proofs.Common.{drop, length, ◌++◌, ◌+◌, ◌-◌, ◌≡◌, ◌≤◌}
use Rattle.bw_column.proofs.column.Column.mapped.Given as goal

-- the rows so far are there
abbrev pub invariant-loop-at : goal.invariant-loop-at
invariant-loop-at l = record {
  at : l.at ≤ length l.self.values;
  values : l.column.values ++ drop l.at l.self.values ≡ l.self.values;
  layout : l.column.layout ≡ l.fn.layout;
  encoding : l.column.encoding ≡ l.fn.encoding;
  room : length l.self.values + l.more ≤ l.column.room;
}

abbrev pub decreases-loop-at : goal.decreases-loop-at
decreases-loop-at l = length l.self.values - l.at
