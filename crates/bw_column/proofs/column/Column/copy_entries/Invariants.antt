use Rattle.std.proofs.Common.{None, get_or, length, ℕ, ◌-◌, ◌<◌, ◌≡◌, ◌≤◌}
use Rattle.bw_mask.specs.Masks.{len}
use Rattle.bw_column.specs.Values.{value_at}
use Rattle.bw_column.proofs.Filled.{fill_at}
use Rattle.bw_column.proofs.column.Column.copy_entries.Given as goal

-- the places before this one have the copy's values, the others what they had
abbrev pub invariant-loop-place : goal.invariant-loop-place
invariant-loop-place l = record {
  at : l.at ≤ len l.places;
  len : length l.self.values ≡ length l.fn.self.values;
  done : (k : ℕ) → k < l.at → get_or l.self.values k None ≡ fill_at l.places (value_at l.copy.values) l.fn.self.values k;
  rest : (k : ℕ) → l.at ≤ k → get_or l.self.values k None ≡ get_or l.fn.self.values k None;
  layout : l.self.layout ≡ l.fn.self.layout;
  encoding : l.self.encoding ≡ l.fn.self.encoding;
}

abbrev pub decreases-loop-place : goal.decreases-loop-place
decreases-loop-place l = len l.places - l.at
