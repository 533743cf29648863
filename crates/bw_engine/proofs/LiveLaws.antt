-- What changes of found slots make of the rows, in the words of a statement.
use Rattle.std.proofs.Common.{◌≡◌, ◌∙◌, ℕ, List, count_by, get_or, if◌then◌else◌, length, map, not, Option, Some, ap}
use Rattle.std.specs.Prelude.{option_map}
use Rattle.std.specs.List.{All, filter}
use Rattle.std.proofs.lemmas.List.{length-map}
use Rattle.std.proofs.lemmas.List.Elements.{All-filter, All-map}
use Rattle.bw_mask.specs.Masks.{MaskRows, row_at}
use Rattle.bw_table.specs.Changes.{row_with, slots_with, slots_without}
use Rattle.bw_table.specs.Slots.{Slot, live_slots}
use Rattle.bw_table.specs.declared.setting.SetTo.{SetTo}
use Rattle.bw_table.proofs.Places.{map_alike}
use Rattle.bw_sql.specs.Rows.{joined}
use Rattle.bw_sql.specs.Tree.{ConditionTree}
use Rattle.bw_sql.specs.declared.tree.SetClause.{SetClause}
use Rattle.bw_model.specs.Changes.{updated_if_found}
use Rattle.bw_model.specs.Condition.{is_found}
use Rattle.bw_model.specs.Select.{shown}
use Rattle.bw_model.specs.Store.{AreHeaders, Header, Row, place_of, value_at}
use Rattle.bw_plan.specs.Plans.{Plan, planned, source_of}
use Rattle.bw_plan.specs.Sets.{source_to}
use Rattle.bw_plan.specs.declared.plan.Source.{Source}
use Rattle.bw_engine.specs.Found.{is_found_by, rows_where}
use Rattle.bw_engine.specs.Stores.{AreFoundIn, rows_in, rows_of_slots}
use Rattle.bw_engine.proofs.Founds.{finds_by_plan}
use Rattle.bw_engine.proofs.FoundLaws.{found_count, where_found}
use Rattle.bw_engine.proofs.LiveRows.{deleted_rows, updated_rows}
use Rattle.bw_engine.proofs.SetRows.{row_with_sets}

-- as many rows as live slots
pub rows_count : (slots : List Slot) → length (rows_in slots) ≡ length (live_slots slots)
rows_count slots = length-map (live_slots slots) (λ (slot : Slot). slot.row)

-- the rows of slots of one width
pub live_wide : (n : ℕ) (slots : List Slot) → All (λ slot. length slot.row ≡ n) slots → All (λ row. length row ≡ n) (rows_in slots)
live_wide n slots all =
    All-map (λ (row : Row). length row ≡ n) (λ (slot : Slot). slot.row) (filter (λ (slot : Slot). slot.live) slots) (All-filter (λ (slot : Slot). slot.live) (λ (slot : Slot). length slot.row ≡ n) slots all)

module _ (headers : List Header) (condition : Option ConditionTree) (plan : Option Plan) (is : plan ≡ option_map (planned headers) condition)
    (slots : List Slot) (found : MaskRows) (are : AreFoundIn slots plan found) where
  same_filter : filter (is_found_by plan) (rows_in slots) ≡ filter (is_found headers condition) (rows_in slots)
  same_filter = λ j. filter (λ row. finds_by_plan headers condition plan is row j) (rows_in slots)

  pub where_condition : rows_where (row_at found) (rows_of_slots slots) ≡ filter (is_found headers condition) (rows_in slots)
  where_condition = where_found slots plan found are ∙ same_filter

  pub count_condition : count_by (λ row. row) found.rows ≡ length (filter (is_found headers condition) (rows_in slots))
  count_condition = found_count slots plan found are ∙ ap length same_filter

  pub shown_condition : (places : List ℕ) → joined (map (λ row. map (λ place. shown (value_at row place)) places) (rows_where (row_at found) (rows_of_slots slots))) ≡ joined (map (λ row. map (λ place. shown (value_at row place)) places) (filter (is_found headers condition) (rows_in slots)))
  shown_condition places = ap (λ rows. joined (map (λ row. map (λ place. shown (value_at row place)) places) rows)) where_condition

  pub deleted_condition : rows_in (slots_without found slots) ≡ filter (λ row. not (is_found headers condition row)) (rows_in slots)
  deleted_condition = deleted_rows slots plan found are ∙ (λ j. filter (λ row. not (finds_by_plan headers condition plan is row j)) (rows_in slots))

  pub updated_condition : (sets : List SetClause) (placed : List (ℕ × SetTo)) → AreHeaders headers → All (λ row. length row ≡ length headers) (rows_in slots)
      → ◌≡◌ {A = List (Option ℕ × Source)} (map (λ set. (Some set.0, source_to set.1)) placed) (map (λ set. (place_of headers set.column, source_of headers set.source)) sets)
      → rows_in (slots_with found placed slots) ≡ map (updated_if_found headers sets condition) (rows_in slots)
  updated_condition sets placed valid wide as_named =
      updated_rows slots plan found are placed
      ∙ (λ j. map (λ row. if finds_by_plan headers condition plan is row j then row_with placed row else row) (rows_in slots))
      ∙ map_alike (λ row. if is_found headers condition row then row_with placed row else row) (updated_if_found headers sets condition) (rows_in slots)
      (λ k d l. ap (λ new. if is_found headers condition (get_or (rows_in slots) k d) then new else get_or (rows_in slots) k d) (row_with_sets headers sets placed (get_or (rows_in slots) k d) valid (wide k d l) as_named))
