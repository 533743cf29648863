-- Slots and encodings after a statement. The model defines which rows a table then has; this defines how they are stored.
use Rattle.std.specs.Prelude.{List, Option, Some, [], length, map, option_map, slice_index_or, ℕ, ◌++◌, ◌<◌, ◌∷◌, ◌≡◌}
use Rattle.std.specs.Map.{lookup, remove_entry, set_value}
use Rattle.std.specs.Str.{bytes_eq}
use Rattle.bw_mask.specs.Masks.{MaskRows}
use Rattle.bw_code.specs.declared.encoding.Encoding.{Encoding}
use Rattle.bw_table.specs.Changes.{AreInserted, AreRebuilt, AreUpdated, slots_without}
use Rattle.bw_table.specs.Opening.{IsFitted}
use Rattle.bw_table.specs.Slots.{live_slot, slot_column}
use Rattle.bw_table.specs.Tables.{slots_in}
use Rattle.bw_table.specs.declared.choice.Choice.{Choice}
use Rattle.bw_table.specs.declared.setting.SetTo.{SetTo}
use Rattle.bw_sql.specs.Tree.{ConditionTree, StatementTree, create_table, delete, drop_table, insert, list_tables, load, open_table, rebuild, save, select, stats, update}
use Rattle.bw_sql.specs.declared.tree.LayoutChoice.{LayoutChoice}
use Rattle.bw_sql.specs.declared.tree.SetClause.{SetClause}
use Rattle.bw_model.specs.Store.{Header, Row}
use Rattle.bw_model.specs.declared.reply.Reply.{Reply}
use Rattle.bw_model.specs.declared.reply.Reply.TheVariants.{Refused}
use Rattle.bw_plan.specs.Plans.{planned}
use Rattle.bw_plan.specs.Sets.{AreChoicesFor, AreSetsFor}
use Rattle.bw_engine.specs.Stores.{AreFoundIn, Stored, StoredTable, rows_in}

-- a new table: its slots are its rows, all live, and each column has an encoding of its kind that fits its values
pub record IsNew (table : StoredTable) : Type 0 where
  pub live : table.slots ≡ map live_slot (rows_in table.slots)
  pub count : length table.encodings ≡ length table.headers
  pub fitted : (k : ℕ) (h : Header) (e : Encoding) → k < length table.headers → IsFitted (slice_index_or table.headers k h) (slot_column table.slots k) (slice_index_or table.encodings k e)

-- rows are appended in live slots; dead slots were dropped only where there were not enough slots
pub record Grows (old new : StoredTable) : Type 0 where
  pub rows : List Row
  pub inserted : AreInserted (slots_in old) rows (slots_in new)

-- columns are set in the live slots that the condition finds
pub record SetsFound (clauses : List SetClause) (condition : Option ConditionTree) (old new : StoredTable) : Type 0 where
  pub found : MaskRows
  pub are : AreFoundIn old.slots (option_map (planned old.headers) condition) found
  pub sets : List (ℕ × SetTo)
  pub named : AreSetsFor old.headers clauses sets
  pub updated : AreUpdated found sets (slots_in old) (slots_in new)

-- the live slots that the condition finds become dead
pub record KillsFound (condition : Option ConditionTree) (old new : StoredTable) : Type 0 where
  pub found : MaskRows
  pub are : AreFoundIn old.slots (option_map (planned old.headers) condition) found
  pub slots : new.slots ≡ slots_without found old.slots
  pub encodings : new.encodings ≡ old.encodings

-- the dead slots are dropped, and each column is rebuilt
pub record BuildsAnew (clauses : List LayoutChoice) (old new : StoredTable) : Type 0 where
  pub choices : List (ℕ × Choice)
  pub named : AreChoicesFor old.headers clauses choices
  pub rebuilt : AreRebuilt choices (slots_in old) (slots_in new)

-- a table was added after the existing ones
pub record IsAdded (tables : Stored) (name : List ℕ) (after : Stored) : Type 0 where
  pub table : StoredTable
  pub is_new : IsNew table
  pub added : after ≡ tables ++ (name, table) ∷ []

-- the table of this name was changed, in its place
pub record IsChanged (Change : StoredTable → StoredTable → Type 0) (tables : Stored) (name : List ℕ) (after : Stored) : Type 0 where
  pub old : StoredTable
  pub new : StoredTable
  pub there : lookup (bytes_eq name) tables ≡ Some old
  pub changed : Change old new
  pub set : after ≡ set_value (bytes_eq name) tables new

-- what a statement that isn't refused makes of the tables
abbrev pub ChangesStored : Stored → StatementTree → Stored → Type 0
ChangesStored tables (create_table name columns) after = IsAdded tables name after
ChangesStored tables (drop_table name) after = after ≡ remove_entry (bytes_eq name) tables
ChangesStored tables list_tables after = after ≡ tables
ChangesStored tables (insert name listed rows) after = IsChanged Grows tables name after
ChangesStored tables (update name sets condition) after = IsChanged (SetsFound sets condition) tables name after
ChangesStored tables (delete name condition) after = IsChanged (KillsFound condition) tables name after
ChangesStored tables (rebuild name choices) after = IsChanged (BuildsAnew choices) tables name after
ChangesStored tables (select query) after = after ≡ tables
ChangesStored tables (stats query) after = after ≡ tables
ChangesStored tables (load name file first) after = IsChanged Grows tables name after
ChangesStored tables (save name file) after = after ≡ tables
ChangesStored tables (open_table name file) after = IsAdded tables name after

-- what is refused changes nothing
abbrev pub LeavesStored : Stored → StatementTree → Reply → Stored → Type 0
LeavesStored tables statement (Refused refusal) after = after ≡ tables
LeavesStored tables statement _ after = ChangesStored tables statement after
