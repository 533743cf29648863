use Rattle.std.proofs.Common.{drop, not, take, ℕ, ◌&&◌, ◌≡◌}
use Rattle.std.specs.List.{list_any}
use Rattle.std.specs.Ordering.{int_eq}
use Rattle.bw_mask.specs.Masks.{SameShape, row_at}
use Rattle.bw_code.specs.Meters.{raised}
use Rattle.bw_column.specs.Comparisons.{holds_of}
use Rattle.bw_column.specs.Costs.{needed_known, units_of_entries, units_of_list}
use Rattle.bw_column.specs.Values.{value_at}
use Rattle.bw_column.proofs.column.Column.split_by_list.Given as goal

-- the rows that no entry so far has made true; their scans for the other entries are still to come
abbrev pub invariant-loop-entry : goal.invariant-loop-entry
invariant-loop-entry l = record {
  shape : SameShape l.falses l.fn.falses;
  other_shape : SameShape l.trues l.fn.trues;
  rows : (i : ℕ) → row_at l.falses i ≡ (needed_known l.need l.self.values i && not (holds_of (λ x. list_any (λ entry. int_eq x entry) (take l.entry-index l.entries)) (value_at l.self.values i)));
  units : raised l.cost (units_of_entries l.self (row_at l.falses) (drop l.entry-index l.entries)) ≡ raised 0 (units_of_list l.self l.entries l.need);
}
