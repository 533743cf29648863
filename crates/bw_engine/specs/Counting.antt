-- How many units the condition of a SELECT reads at the live slots of its table, and so the number that a STATS replies.
use Rattle.std.specs.Prelude.{Bool, List, None, Option, Some, false, map, option_map, slice_index_or, ℕ}
use Rattle.std.specs.Map.{lookup}
use Rattle.std.specs.Str.{bytes_eq}
use Rattle.bw_code.specs.Meters.{raised}
use Rattle.bw_table.specs.Slots.{Slot}
use Rattle.bw_table.specs.Tables.{slots_in}
use Rattle.bw_sql.specs.Tree.{ConditionTree, SelectTree, StatementTree, stats}
use Rattle.bw_model.specs.declared.content.Content.{Content}
use Rattle.bw_model.specs.declared.content.Content.TheVariants.{Counted, Nothing}
use Rattle.bw_plan.specs.Costs.{units_by}
use Rattle.bw_plan.specs.Plans.{Plan, planned}
use Rattle.bw_engine.specs.Stores.{Stored, StoredTable}

-- whether slot i is live; past the last slot, false
abbrev pub is_live : List Slot → ℕ → Bool
is_live slots i = slice_index_or (map (λ slot. slot.live) slots) i false

-- the units of a plan at the live slots; without a plan, 0
abbrev pub units_at : StoredTable → Option Plan → ℕ
units_at table None = 0
units_at table (Some plan) = units_by plan (slots_in table) (is_live table.slots)

-- the units of a condition
abbrev pub units_in : StoredTable → Option ConditionTree → ℕ
units_in table condition = units_at table (option_map (planned table.headers) condition)

-- the units of a SELECT of a table, if the table exists
abbrev pub units_over : Option StoredTable → Option ConditionTree → ℕ
units_over None condition = 0
units_over (Some table) condition = units_in table condition

-- the count of a new meter for that SELECT
abbrev pub units_of : Stored → SelectTree → ℕ
units_of tables query = raised 0 (units_over (lookup (bytes_eq query.table) tables) query.condition)

-- what the model's step is told for a statement that reads no file
abbrev pub said_of : Stored → StatementTree → Content
said_of tables (stats query) = Counted (units_of tables query)
said_of tables _ = Nothing
