-- How many units of storage a condition reads at the needed slots of a table.
use Rattle.std.specs.Prelude.{Bool, List, None, Option, Some, if◌then◌else◌, is_some, nat_lt, length, not, slice_index_or, [], ℕ, ℤ, ◌&&◌, ◌+◌}
use Rattle.bw_lex.specs.declared.token.CompareOp.{CompareOp}
use Rattle.bw_lex.specs.declared.token.CompareOp.TheVariants.{Ge, Le}
use Rattle.bw_mask.specs.Truth.{is_value}
use Rattle.bw_mask.specs.declared.truth_value.TruthValue.TheVariants.{False, True}
use Rattle.bw_code.specs.Encodings.{range_of, test_of}
use Rattle.bw_code.specs.declared.encoding.Encoding.TheVariants.{Dictionary}
use Rattle.bw_code.specs.declared.kind.Layout.TheVariants.{P}
use Rattle.bw_column.specs.Columns.{ColumnView}
use Rattle.bw_column.specs.Costs.{units_of_both, units_of_entries, units_of_test}
use Rattle.bw_column.specs.Values as values
use Rattle.bw_model.specs.Condition.{compared}
use Rattle.bw_model.specs.Store.{Value}
use Rattle.bw_table.specs.Slots.{SlotsView, slot_column}
use Rattle.bw_plan.specs.Operands.{cmp_of, mirrored, truth_in}
use Rattle.bw_plan.specs.Plans.{Plan, Plans, among, between, comparison, each_of, more, negated, none, null, some_of, tested}
use Rattle.bw_plan.specs.declared.operand.SlotOperand.{SlotOperand}
use Rattle.bw_plan.specs.declared.operand.SlotOperand.TheVariants as slot
use Rattle.bw_plan.specs.declared.plan.Source.{Source}
use Rattle.bw_plan.specs.declared.plan.Source.TheVariants.{Constant, Place}

-- the values read for an operand: those of a column, or none
pub data Reading : Type 0 where
  of_column : ColumnView → Reading
  of_constant : Value → Reading

-- column k of slots; its room doesn't matter, and is 0 here
abbrev pub column_in : SlotsView → ℕ → ColumnView
column_in slots k = record { values = slot_column slots.slots k; layout = slice_index_or slots.layouts k P; encoding = slice_index_or slots.encodings k (Dictionary []); room = 0 }

-- the reading of a source; an index past the last column is null
abbrev pub reading_in : SlotsView → Source → Reading
reading_in slots (Place k) = if nat_lt k (length slots.encodings) then of_column (column_in slots k) else of_constant None
reading_in slots (Constant value) = of_constant value

-- the reading of a Rust value
abbrev pub reading_of : SlotOperand → Reading
reading_of (slot.Column c) = of_column (record { values = c.now.values; layout = c.now.layout; encoding = c.now.encoding; room = 0 })
reading_of (slot.Constant value) = of_constant value

abbrev pub read_at : Reading → ℕ → Value
read_at (of_column c) i = values.value_at c.values i
read_at (of_constant value) i = value

-- the number that an operand is at every slot
abbrev pub number_of : Reading → Option ℤ
number_of (of_column c) = None
number_of (of_constant value) = value

-- the needed slots at which a column is not null
abbrev pub known_in : ColumnView → (ℕ → Bool) → ℕ → Bool
known_in column needed i = needed i && is_some (values.value_at column.values i)

-- a scan, or two columns compared at the needed slots where neither is null; a literal compared with a column costs as much as
-- the column compared with the literal; a null costs nothing
abbrev pub units_of_compared : Reading → CompareOp → Reading → (ℕ → Bool) → ℕ
units_of_compared (of_column x) sign (of_column y) needed = units_of_both x y (λ i. known_in x needed i && is_some (values.value_at y.values i))
units_of_compared (of_column x) sign (of_constant None) needed = 0
units_of_compared (of_column x) sign (of_constant (Some number)) needed = units_of_test x (test_of x.encoding (cmp_of sign) number) (known_in x needed)
units_of_compared (of_constant None) sign (of_column y) needed = 0
units_of_compared (of_constant (Some number)) sign (of_column y) needed = units_of_test y (test_of y.encoding (cmp_of (mirrored sign)) number) (known_in y needed)
units_of_compared (of_constant x) sign (of_constant y) needed = 0

-- two comparisons, the second at the slots where the first is not false
abbrev pub units_of_ends : Reading → (low high : Reading) → (ℕ → Bool) → ℕ
units_of_ends value low high needed =
    units_of_compared value Ge low needed + units_of_compared value Le high (λ i. needed i && not (is_value (compared Ge (read_at value i) (read_at low i)) False))

-- a column between two numbers is scanned once
abbrev pub units_in_range : Reading → (low high : Reading) → Option ℤ → Option ℤ → (ℕ → Bool) → ℕ
units_in_range (of_column x) low high (Some first) (Some last) needed = units_of_test x (range_of x.encoding first last) (known_in x needed)
units_in_range value low high first last needed = units_of_ends value low high needed

abbrev pub units_of_between : Reading → (low high : Reading) → (ℕ → Bool) → ℕ
units_of_between value low high needed = units_in_range value low high (number_of low) (number_of high) needed

-- one scan per entry, in order, of the slots not yet true; null entries cost nothing
abbrev pub units_of_listed : Reading → List Value → (ℕ → Bool) → ℕ
units_of_listed (of_column x) entries needed = units_of_entries x (known_in x needed) (values.known entries)
units_of_listed (of_constant value) entries needed = 0

-- NOT and an IS test cost what their operand costs, and a test for null nothing; in a run of AND the next part is needed where no
-- earlier part is false, in a run of OR where none is true
abbrev mutual
  pub units_by : Plan → SlotsView → (ℕ → Bool) → ℕ
  units_by (each_of parts) view needed = units_of_each parts view needed
  units_by (some_of parts) view needed = units_of_some parts view needed
  units_by (negated part) view needed = units_by part view needed
  units_by (tested part truth) view needed = units_by part view needed
  units_by (comparison x op y) view needed = units_of_compared (reading_in view x) op (reading_in view y) needed
  units_by (between x low high) view needed = units_of_between (reading_in view x) (reading_in view low) (reading_in view high) needed
  units_by (among x entries) view needed = units_of_listed (reading_in view x) entries needed
  units_by (null x) view needed = 0

  pub units_of_each : Plans → SlotsView → (ℕ → Bool) → ℕ
  units_of_each none view needed = 0
  units_of_each (more part parts) view needed = units_by part view needed + units_of_each parts view (λ i. needed i && not (is_value (truth_in part view.slots i) False))

  pub units_of_some : Plans → SlotsView → (ℕ → Bool) → ℕ
  units_of_some none view needed = 0
  units_of_some (more part parts) view needed = units_by part view needed + units_of_some parts view (λ i. needed i && not (is_value (truth_in part view.slots i) True))
