use Rattle.std.proofs.Common.{length, ◌%◌, ◌-◌, ◌<◌, ◌≡◌, ◌≤◌}
use Rattle.bw_mask.specs.Masks.{len, row_at}
use Rattle.bw_engine.specs.Runs.{lines_from, slot_line}
use Rattle.bw_engine.proofs.shown.found_values.Given as goal

-- the lines of the slots before this one, which begins a word or is past the last
abbrev pub invariant-loop-slot : goal.invariant-loop-slot
invariant-loop-slot l = record {
  at : l.at ≤ len l.found;
  whole : l.at < len l.found → l.at % 64 ≡ 0;
  count : length l.runs.items ≡ length l.places;
  values : l.values.items ≡ lines_from (slot_line l.places l.table.slots) (row_at l.found) 0 l.at;
}

abbrev pub decreases-loop-slot : goal.decreases-loop-slot
decreases-loop-slot l = len l.found - l.at
