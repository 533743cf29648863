use Rattle.std.proofs.Common.{length, ℕ, ◌-◌, ◌<◌, ◌≤◌}
use Rattle.bw_code.specs.declared.encoding.Encoding.TheVariants as by
use Rattle.bw_column.specs.Codes.{IsCoded}
use Rattle.bw_column.specs.Values.{value_at}
use Rattle.bw_column.proofs.column.Column.lies_within.Given as goal

-- the values so far have codes
abbrev pub invariant-loop-at : goal.invariant-loop-at
invariant-loop-at l = record {
  at : l.at ≤ length l.self.values;
  done : (k : ℕ) → k < l.at → IsCoded (by.Offset l.offset) (value_at l.self.values k);
}

abbrev pub decreases-loop-at : goal.decreases-loop-at
decreases-loop-at l = length l.self.values - l.at
