-- The effect of a statement: the reply and the store after it (SQL-92, the general rules of the statements).
use Rattle.std.specs.Prelude.{◌≡◌, ◌⊎◌, ℕ, List, [], ◌∷◌, ◌++◌, Option, Some, None, length, map, if◌then◌else◌}
use Rattle.std.specs.Map.{remove_entry}
use Rattle.std.specs.Str.{bytes_eq}
use Rattle.bw_sql.specs.Tree.{StatementTree, create_table, delete, drop_table, insert, list_tables, load, open_table, rebuild, save, select, stats, update}
use Rattle.bw_model.specs.Changes.{with_choices, with_updates, without_found}
use Rattle.bw_model.specs.Condition.{found_rows}
use Rattle.bw_model.specs.Contents.{lines_in, table_held, units_in}
use Rattle.bw_model.specs.Insert.{with_rows}
use Rattle.bw_model.specs.Listing.{listing}
use Rattle.bw_model.specs.Refusals.{first_that_holds, refused_early, tests_of}
use Rattle.bw_model.specs.Select.{answer}
use Rattle.bw_model.specs.Store.{Row, Store, Table, header_of, table_of}
use Rattle.bw_model.specs.declared.content.Content.{Content}
use Rattle.bw_model.specs.declared.refusal.Refusal.{Refusal}
use Rattle.bw_model.specs.declared.refusal.Refusal.TheVariants.{OutOfMemory}
use Rattle.bw_model.specs.declared.reply.Reply.{Reply}
use Rattle.bw_model.specs.declared.reply.Reply.TheVariants.{Done, Count, Rows, Units, Refused}

-- the table, or one without columns and rows if there is none
abbrev pub table_or_none : Option Table → Table
table_or_none None = record { headers = []; rows = [] }
table_or_none (Some table) = table

-- the store with the table of this name changed by a function, at the same position
abbrev pub with_table : Store → List ℕ → (Table → Table) → Store
with_table [] name change = []
with_table (entry ∷ store) name change = if bytes_eq name entry.0 then (entry.0, change entry.1) ∷ store else entry ∷ with_table store name change

-- the store without the table of this name; the others keep their order
abbrev pub without_table : Store → List ℕ → Store
without_table store name = remove_entry (bytes_eq name) store

-- the table with these rows appended
abbrev pub with_lines : List Row → Table → Table
with_lines rows table = record { headers = table.headers; rows = table.rows ++ rows }

-- the reply and the store after a statement that isn't refused, given what its file tells it or the units its condition reads
abbrev pub carried_out : Store → Content → StatementTree → Reply × Store
carried_out store said (create_table name columns) = (Done, store ++ (name, record { headers = map header_of columns; rows = [] }) ∷ [])
carried_out store said (drop_table name) = (Done, without_table store name)
carried_out store said list_tables = (Rows (listing store), store)
carried_out store said (insert name listed rows) = (Count (length rows), with_table store name (with_rows listed rows))
carried_out store said (update name sets condition) = (Count (length (found_rows (table_or_none (table_of store name)) condition)), with_table store name (with_updates sets condition))
carried_out store said (delete name condition) = (Count (length (found_rows (table_or_none (table_of store name)) condition)), with_table store name (without_found condition))
carried_out store said (rebuild name choices) = (Done, with_table store name (with_choices choices))
carried_out store said (select query) = (Rows (answer (table_or_none (table_of store query.table)) query), store)
carried_out store said (stats query) = (Units (units_in said), store)
carried_out store said (load name file first) = (Count (length (lines_in said)), with_table store name (with_lines (lines_in said)))
carried_out store said (save name file) = (Count (length (table_or_none (table_of store name)).rows), store)
carried_out store said (open_table name file) = (Count (length (table_held said).rows), store ++ (name, table_held said) ∷ [])

-- a refusal changes nothing
abbrev pub refused_or : Option Refusal → Store → Reply × Store → Reply × Store
refused_or None store done = done
refused_or (Some refusal) store done = (Refused refusal, store)

abbrev pub outcome_of : Store → Content → StatementTree → Reply × Store
outcome_of store said statement = refused_or (first_that_holds (tests_of store said statement)) store (carried_out store said statement)

-- a statement may run out of memory, and then changes nothing, unless it is refused for a reason that needs no file
pub record WantsMemory (store : Store) (statement : StatementTree) (reply : Reply) (after : Store) : Type 0 where
  pub accepted : refused_early store statement ≡ None
  pub says : reply ≡ Refused OutOfMemory
  pub stays : after ≡ store

-- A statement may take the store to `after` with this reply: that of its outcome, or that it ran out of memory.
abbrev pub Step : Store → Content → StatementTree → Reply → Store → Type 0
Step store said statement reply after = WantsMemory store statement reply after ⊎ (◌≡◌ {A = Reply × Store} (reply, after) (outcome_of store said statement))
