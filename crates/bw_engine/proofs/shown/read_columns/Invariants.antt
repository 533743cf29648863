use Rattle.std.proofs.Common.{[], get_or, length, ℕ, ◌+◌, ◌<◌, ◌≡◌}
use Rattle.bw_column.specs.Values.{value_at}
use Rattle.bw_table.specs.Slots.{slot_at}
use Rattle.bw_engine.proofs.shown.read_columns.Given as goal

-- the runs before run p are read
abbrev pub invariant-loop-p : goal.invariant-loop-p
invariant-loop-p l = record {
  count : length l.runs ≡ length l.places;
  values : (k i : ℕ) → k < l.p → i < l.n → value_at (get_or l.runs k []) i ≡ value_at (slot_at l.table.slots (l.at + i)).row (get_or l.places k 0);
}
