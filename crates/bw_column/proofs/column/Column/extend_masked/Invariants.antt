use Rattle.std.proofs.Common.{length, take, ◌-◌, ◌≡◌, ◌≤◌}
use Rattle.bw_column.specs.Copies.{masked}
use Rattle.bw_column.proofs.column.Column.extend_masked.Given as goal

-- the values so far
abbrev pub invariant-loop-at : goal.invariant-loop-at
invariant-loop-at l = record {
  at : l.at ≤ length l.other.values;
  values : l.self.values ≡ take l.at (masked l.places l.other.values);
  room : l.fn.self.room ≤ l.self.room;
  layout : l.self.layout ≡ l.fn.self.layout;
  encoding : l.self.encoding ≡ l.fn.self.encoding;
}

abbrev pub decreases-loop-at : goal.decreases-loop-at
decreases-loop-at l = length l.other.values - l.at
