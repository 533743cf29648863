-- Statement trees of the language (SQL-92: table definition, drop table statement, insert statement, searched update and delete
-- statements, query specification, search condition and predicates; beyond it, statements that exchange a table with a file),
-- independent of memory layout. A name of a table, a column or a file is its bytes, a value is a number or none.
use Rattle.std.specs.Prelude.{ℕ, ℤ, List, [], ◌∷◌, map, Option, option_map}
use Rattle.std.specs.Global.{Vec}
use Rattle.bw_lex.specs.declared.token.CompareOp.{CompareOp}
use Rattle.bw_sql.specs.declared.tree.Operand.{Operand}
use Rattle.bw_sql.specs.declared.tree.Condition.{Condition}
use Rattle.bw_sql.specs.declared.tree.Condition.TheOpen.{Condition-F}
use Rattle.bw_sql.specs.declared.tree.Condition.TheFolds.{fold-Condition}
use Rattle.bw_sql.specs.declared.tree.TruthWord.{TruthWord}
use Rattle.bw_sql.specs.declared.tree.ColumnDefinition.{ColumnDefinition}
use Rattle.bw_sql.specs.declared.tree.LayoutChoice.{LayoutChoice}
use Rattle.bw_sql.specs.declared.tree.SetClause.{SetClause}
use Rattle.bw_sql.specs.declared.tree.FirstRecord.{FirstRecord}
use Rattle.bw_sql.specs.declared.tree.Select.{Select}
use Rattle.bw_sql.specs.declared.tree.SelectItem.{SelectItem}
use Rattle.bw_sql.specs.declared.tree.SelectItems.{SelectItems}
use Rattle.bw_sql.specs.declared.tree.SelectItems.TheVariants as items
use Rattle.bw_sql.specs.declared.tree.Statement.{Statement}
use Rattle.bw_sql.specs.declared.tree.Statement.TheVariants as statements

mutual
  pub data ConditionTree : Type 0 where
    each_of : ConditionTrees → ConditionTree
    some_of : ConditionTrees → ConditionTree
    negated : ConditionTree → ConditionTree
    tested : ConditionTree → TruthWord → ConditionTree
    comparison : Operand → CompareOp → Operand → ConditionTree
    between : Operand → (low : Operand) → (high : Operand) → ConditionTree
    among : Operand → List (Option ℤ) → ConditionTree
    null : Operand → ConditionTree

  pub data ConditionTrees : Type 0 where
    none : ConditionTrees
    more : ConditionTree → ConditionTrees → ConditionTrees

abbrev pub trees_of : List ConditionTree → ConditionTrees
trees_of [] = none
trees_of (c ∷ cs) = more c (trees_of cs)

pub data ItemsTree : Type 0 where
  all_columns : ItemsTree
  listed : List SelectItem → ItemsTree

-- what a SELECT asks for
pub record SelectTree : Type 0 where
  pub items : ItemsTree
  pub table : List ℕ
  pub condition : Option ConditionTree
  pub grouping : Option (List ℕ)

pub data StatementTree : Type 0 where
  create_table : (table : List ℕ) → List ColumnDefinition → StatementTree
  drop_table : (table : List ℕ) → StatementTree
  list_tables : StatementTree
  insert : (table : List ℕ) → (columns : Option (List (List ℕ))) → (rows : List (List (Option ℤ))) → StatementTree
  update : (table : List ℕ) → List SetClause → Option ConditionTree → StatementTree
  delete : (table : List ℕ) → Option ConditionTree → StatementTree
  rebuild : (table : List ℕ) → List LayoutChoice → StatementTree
  select : SelectTree → StatementTree
  stats : SelectTree → StatementTree
  load : (table : List ℕ) → (file : List ℕ) → FirstRecord → StatementTree
  save : (table : List ℕ) → (file : List ℕ) → StatementTree
  open_table : (table : List ℕ) → (file : List ℕ) → StatementTree

-- one level of a Rust condition, with trees in place of its parts
abbrev pub condition_step : Condition-F ConditionTree → ConditionTree
condition_step (Condition-F.And parts) = each_of (trees_of parts.items)
condition_step (Condition-F.Or parts) = some_of (trees_of parts.items)
condition_step (Condition-F.Not part) = negated part.value
condition_step (Condition-F.Is part truth) = tested part.value truth
condition_step (Condition-F.Compare x op y) = comparison x op y
condition_step (Condition-F.Between x low high) = between x low high
condition_step (Condition-F.In x values) = among x values.items
condition_step (Condition-F.IsNull x) = null x

-- the condition that a Rust value holds
abbrev pub condition_of : Condition → ConditionTree
condition_of = fold-Condition ConditionTree condition_step

-- the conditions in a vector
abbrev pub conditions_in : Vec Condition → List ConditionTree
conditions_in parts = map condition_of parts.items

abbrev pub items_of : SelectItems → ItemsTree
items_of items.All = all_columns
items_of (items.List list) = listed list

abbrev pub select_of : Select → SelectTree
select_of s = record { items = items_of s.items; table = s.table; condition = option_map condition_of s.condition; grouping = s.grouping }

-- the statement that a Rust value holds
abbrev pub statement_of : Statement → StatementTree
statement_of (statements.CreateTable s) = create_table s.table s.columns.items
statement_of (statements.DropTable table) = drop_table table
statement_of statements.ListTables = list_tables
statement_of (statements.Insert s) = insert s.table s.columns s.rows
statement_of (statements.Update s) = update s.table s.sets.items (option_map condition_of s.condition)
statement_of (statements.Delete s) = delete s.table (option_map condition_of s.condition)
statement_of (statements.Rebuild s) = rebuild s.table s.choices.items
statement_of (statements.Select s) = select (select_of s)
statement_of (statements.Stats s) = stats (select_of s)
statement_of (statements.Load s) = load s.table s.file s.first
statement_of (statements.Save s) = save s.table s.file
statement_of (statements.Open s) = open_table s.table s.file
