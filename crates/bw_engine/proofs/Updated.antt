-- A table whose rows are changed, as the model has it.
use Rattle.std.proofs.Common.{◌≡◌, ◌∙◌, ℕ, List, Option, ap, length}
use Rattle.std.specs.Prelude.{option_map}
use Rattle.std.specs.List.{All}
use Rattle.bw_mask.specs.Masks.{MaskRows}
use Rattle.bw_table.specs.Changes.{slots_with, slots_without}
use Rattle.bw_table.specs.Tables.{AreChosen}
use Rattle.bw_table.specs.declared.choice.Choice.{Choice}
use Rattle.bw_table.specs.declared.setting.SetTo.{SetTo}
use Rattle.bw_sql.specs.Tree.{ConditionTree}
use Rattle.bw_sql.specs.declared.tree.LayoutChoice.{LayoutChoice}
use Rattle.bw_sql.specs.declared.tree.SetClause.{SetClause}
use Rattle.bw_model.specs.Changes.{with_choices, with_updates, without_found}
use Rattle.bw_model.specs.Store.{AreHeaders}
use Rattle.bw_plan.specs.Plans.{Plan, planned}
use Rattle.bw_plan.specs.Sets.{AreChoicesFor, AreSetsFor}
use Rattle.bw_engine.specs.Stores.{AreFoundIn, StoredTable, rows_in, table_in}
use Rattle.bw_engine.proofs.Chosen.{chosen_headers_are}
use Rattle.bw_engine.proofs.LiveLaws.{deleted_condition, live_wide, updated_condition}

module _ (old new : StoredTable) where
  module _ (condition : Option ConditionTree) (plan : Option Plan) (found : MaskRows) (is : plan ≡ option_map (planned old.headers) condition) (are : AreFoundIn old.slots plan found) (headers_stay : new.headers ≡ old.headers) where
    pub updated_table : (clauses : List SetClause) (sets : List (ℕ × SetTo)) → AreHeaders old.headers → All (λ slot. length slot.row ≡ length old.headers) old.slots → AreSetsFor old.headers clauses sets
        → new.slots ≡ slots_with found sets old.slots → table_in new ≡ with_updates clauses condition (table_in old)
    updated_table clauses sets valid wide named slots_are =
        let rows = ap rows_in slots_are ∙ updated_condition old.headers condition plan is old.slots found are clauses sets valid
        (live_wide (length old.headers) old.slots wide) named in
        λ j. record { headers = headers_stay j; rows = rows j }

    pub deleted_table : new.slots ≡ slots_without found old.slots → table_in new ≡ without_found condition (table_in old)
    deleted_table slots_are =
        let rows = ap rows_in slots_are ∙ deleted_condition old.headers condition plan is old.slots found are in
        λ j. record { headers = headers_stay j; rows = rows j }

  pub chosen_table : (clauses : List LayoutChoice) (choices : List (ℕ × Choice)) → AreHeaders old.headers → AreChoicesFor old.headers clauses choices → AreChosen choices old.headers new.headers
      → rows_in new.slots ≡ rows_in old.slots → table_in new ≡ with_choices clauses (table_in old)
  chosen_table clauses choices valid named chosen rows =
      let headers = chosen_headers_are choices clauses old.headers new.headers valid named chosen in
      λ j. record { headers = headers j; rows = rows j }
