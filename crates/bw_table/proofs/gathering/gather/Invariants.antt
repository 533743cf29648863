use Rattle.std.proofs.Common.{◌≡◌, ◌≤◌, ◌-◌, map}
use Rattle.bw_mask.specs.Masks.{len}
use Rattle.bw_column.specs.Values.{value_at}
use Rattle.bw_table.specs.Changes.{places_below}
use Rattle.bw_table.proofs.gathering.gather.Given as goal

-- the values of the places below this row
abbrev pub invariant-loop-row : goal.invariant-loop-row
invariant-loop-row l = record {
  at : l.at ≤ len l.mask;
  values : l.values.items ≡ map (value_at l.column.values) (places_below l.mask l.at);
}

abbrev pub decreases-loop-row : goal.decreases-loop-row
decreases-loop-row l = len l.mask - l.at
