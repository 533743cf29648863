-- Why a statement is refused: its refusals in order, and the first that applies (SQL-92, syntax rules of table definition, drop
-- table, insert, searched update and delete statements and query specification; and limits of this product's own).
use Rattle.std.specs.Prelude.{ℕ, ◌+◌, ◌++◌, ◌==◌, Bool, true, false, ◌||◌, not, nat_le, nat_lt, List, [], ◌∷◌, Option, Some, None, is_some, length, map, if◌then◌else◌}
use Rattle.std.specs.List.{list_all, list_any}
use Rattle.std.specs.Str.{bytes_eq}
use Rattle.bw_code.specs.Types.{are_of_types, holds_its_type, is_null_or_of_type}
use Rattle.bw_code.specs.declared.kind.ColumnType.{ColumnType}
use Rattle.bw_lex.specs.declared.fault.SqlFault.{SqlFault}
use Rattle.bw_lex.specs.declared.fault.SqlFault.TheVariants as fault
use Rattle.bw_sql.specs.Tree.{ConditionTree, ConditionTrees, ItemsTree, StatementTree, all_columns, among, between, comparison, create_table, delete, drop_table, each_of, insert, list_tables, listed, load, more, negated, none, null, open_table, rebuild, save, SelectTree, select, some_of, stats, tested, update}
use Rattle.bw_sql.specs.declared.tree.LayoutChoice.{LayoutChoice}
use Rattle.bw_sql.specs.declared.tree.Operand.{Operand}
use Rattle.bw_sql.specs.declared.tree.Operand.TheVariants.{Column, Constant}
use Rattle.bw_sql.specs.declared.tree.SelectItem.{SelectItem}
use Rattle.bw_sql.specs.declared.tree.SelectItem.TheVariants as item
use Rattle.bw_sql.specs.declared.tree.SetClause.{SetClause}
use Rattle.bw_csvload.specs.declared.fault.CsvFault.{CsvFault}
use Rattle.bw_csvload.specs.declared.fault.CsvFault.TheVariants as csv
use Rattle.bw_model.specs.Changes.{chosen_header}
use Rattle.bw_model.specs.Condition.{found_rows, value_of}
use Rattle.bw_model.specs.Contents.{is_missing_file, is_no_table, is_too_large, lines_in}
use Rattle.bw_model.specs.Filing.{file_limit, filed_length}
use Rattle.bw_model.specs.Insert.{target_columns}
use Rattle.bw_model.specs.Select.{columns_in, is_mixed, shown_items}
use Rattle.bw_model.specs.Store.{Header, Row, Store, Table, are_distinct, column_limit, header_of, names, place_of, row_limit, table_limit, table_of, type_named}
use Rattle.bw_model.specs.declared.content.Content.{Content}
use Rattle.bw_model.specs.declared.content.Content.TheVariants as content
use Rattle.bw_model.specs.declared.refusal.Refusal.{Refusal}
use Rattle.bw_model.specs.declared.refusal.Refusal.TheVariants as refusal

-- the refusal for a fault of a text
abbrev pub refusal_of_fault : SqlFault → Refusal
refusal_of_fault fault.Syntax = refusal.Syntax
refusal_of_fault fault.TooLong = refusal.StatementTooLong
refusal_of_fault fault.TooDeep = refusal.NestedTooDeeply
refusal_of_fault fault.BigNumber = refusal.NumberTooLarge
refusal_of_fault fault.Memory = refusal.OutOfMemory

-- the refusal for a fault of a CSV file
abbrev pub refusal_of_csv : CsvFault → Refusal
refusal_of_csv (csv.Fields record') = refusal.WrongNumberOfFields record'
refusal_of_csv (csv.NotInteger record' field) = refusal.NotInteger record' field
refusal_of_csv csv.Range = refusal.OutOfRange
refusal_of_csv csv.Memory = refusal.OutOfMemory

-- refusals in their order, each with whether it applies
abbrev pub Tests : Type 0
Tests = List (Refusal × Bool)

abbrev pub first_that_holds : Tests → Option Refusal
first_that_holds [] = None
first_that_holds (test ∷ tests) = if test.1 then Some test.0 else first_that_holds tests

-- the tests over a table, if it exists
abbrev pub over : Option Table → (Table → Tests) → Tests
over None tests = (refusal.NoSuchTable, true) ∷ []
over (Some table) tests = tests table

abbrev pub is_missing : List Header → List ℕ → Bool
is_missing headers name = not (is_some (place_of headers name))

abbrev pub operand_is_missing : List Header → Operand → Bool
operand_is_missing headers (Column name) = is_missing headers name
operand_is_missing headers (Constant value) = false

-- whether the condition names a column that doesn't exist
abbrev mutual
  pub names_missing : List Header → ConditionTree → Bool
  names_missing headers (each_of parts) = some_names_missing headers parts
  names_missing headers (some_of parts) = some_names_missing headers parts
  names_missing headers (negated part) = names_missing headers part
  names_missing headers (tested part truth) = names_missing headers part
  names_missing headers (comparison x op y) = operand_is_missing headers x || operand_is_missing headers y
  names_missing headers (between x low high) = operand_is_missing headers x || operand_is_missing headers low || operand_is_missing headers high
  names_missing headers (among x entries) = operand_is_missing headers x
  names_missing headers (null x) = operand_is_missing headers x

  pub some_names_missing : List Header → ConditionTrees → Bool
  some_names_missing headers none = false
  some_names_missing headers (more part parts) = names_missing headers part || some_names_missing headers parts

-- the greatest number of entries in an IN list
abbrev pub entry_limit : ℕ
entry_limit = 1000

-- whether an IN list of the condition is too long
abbrev mutual
  pub has_long_list : ConditionTree → Bool
  has_long_list (each_of parts) = some_has_long_list parts
  has_long_list (some_of parts) = some_has_long_list parts
  has_long_list (negated part) = has_long_list part
  has_long_list (tested part truth) = has_long_list part
  has_long_list (among x entries) = nat_lt entry_limit (length entries)
  has_long_list _ = false

  pub some_has_long_list : ConditionTrees → Bool
  some_has_long_list none = false
  some_has_long_list (more part parts) = has_long_list part || some_has_long_list parts

-- a missing condition names no column and has no list
abbrev pub condition_misses : List Header → Option ConditionTree → Bool
condition_misses headers None = false
condition_misses headers (Some condition) = names_missing headers condition

abbrev pub lists_too_long : Option ConditionTree → Bool
lists_too_long None = false
lists_too_long (Some condition) = has_long_list condition

-- whether a layout is given that can't hold the column's type
abbrev pub is_too_narrow : Header → Bool
is_too_narrow header = not (holds_its_type header)

abbrev pub create_tests : List Header → List ℕ → Store → Tests
create_tests columns name store =
    (refusal.TableExists, is_some (table_of store name))
    ∷ (refusal.ColumnNamedTwice, not (are_distinct (names columns)))
    ∷ (refusal.OverLimit, length columns == 0 || nat_lt column_limit (length columns) || nat_le table_limit (length store))
    ∷ (refusal.LayoutTooNarrow, list_any is_too_narrow columns)
    ∷ []

-- the types of the columns with these names
abbrev pub types_named : List Header → List (List ℕ) → List ColumnType
types_named headers columns = map (type_named headers) columns

abbrev pub insert_tests : List (List ℕ) → List Row → Table → Tests
insert_tests columns rows table =
    (refusal.NoSuchColumn, list_any (is_missing table.headers) columns)
    ∷ (refusal.ColumnNamedTwice, not (are_distinct columns))
    ∷ (refusal.WrongNumberOfValues, not (list_all (λ row. length row == length columns) rows))
    ∷ (refusal.OutOfRange, not (list_all (are_of_types (types_named table.headers columns)) rows))
    ∷ (refusal.TableFull, nat_lt row_limit (length table.rows + length rows))
    ∷ []

-- whether a column of a type may be set to this, as far as it can be decided without a row: a literal is of the type
abbrev pub may_be_set : ColumnType → Operand → Bool
may_be_set t (Column name) = true
may_be_set t (Constant value) = is_null_or_of_type t value

-- whether the value that each column is set to in a row is of its type
abbrev pub fits_in : List Header → List SetClause → Row → Bool
fits_in headers sets row = list_all (λ set. is_null_or_of_type (type_named headers set.column) (value_of headers row set.source)) sets

-- the columns on the left sides
abbrev pub set_columns : List SetClause → List (List ℕ)
set_columns sets = map (λ set. set.column) sets

-- the tests of UPDATE that read no row, for a table of these columns
abbrev pub set_tests : List Header → List SetClause → Option ConditionTree → Tests
set_tests headers sets condition =
    (refusal.NoSuchColumn, list_any (is_missing headers) (set_columns sets))
    ∷ (refusal.NoSuchColumn, list_any (λ set. operand_is_missing headers set.source) sets)
    ∷ (refusal.NoSuchColumn, condition_misses headers condition)
    ∷ (refusal.ColumnNamedTwice, not (are_distinct (set_columns sets)))
    ∷ (refusal.OverLimit, lists_too_long condition)
    ∷ (refusal.OutOfRange, not (list_all (λ set. may_be_set (type_named headers set.column) set.source) sets))
    ∷ []

-- what an UPDATE copies in a found row is of its column's type
abbrev pub copy_test : List SetClause → Option ConditionTree → Table → Refusal × Bool
copy_test sets condition table = (refusal.OutOfRange, not (list_all (fits_in table.headers sets) (found_rows table condition)))

abbrev pub update_tests : List SetClause → Option ConditionTree → Table → Tests
update_tests sets condition table = set_tests table.headers sets condition ++ copy_test sets condition table ∷ []

abbrev pub delete_tests : Option ConditionTree → Table → Tests
delete_tests condition table =
    (refusal.NoSuchColumn, condition_misses table.headers condition)
    ∷ (refusal.OverLimit, lists_too_long condition)
    ∷ []

-- the columns that are to be rebuilt
abbrev pub chosen_columns : List LayoutChoice → List (List ℕ)
chosen_columns choices = map (λ choice. choice.column) choices

abbrev pub rebuild_tests : List LayoutChoice → Table → Tests
rebuild_tests choices table =
    (refusal.NoSuchColumn, list_any (is_missing table.headers) (chosen_columns choices))
    ∷ (refusal.ColumnNamedTwice, not (are_distinct (chosen_columns choices)))
    ∷ (refusal.LayoutTooNarrow, list_any (λ header. is_too_narrow (chosen_header choices header)) table.headers)
    ∷ []

abbrev pub grouping_is_missing : List Header → Option (List ℕ) → Bool
grouping_is_missing headers None = false
grouping_is_missing headers (Some name) = is_missing headers name

-- whether an item is a column other than the grouping column
abbrev pub is_other_column : List ℕ → SelectItem → Bool
is_other_column name (item.Column other) = not (bytes_eq other name)
is_other_column name _ = false

-- with groups all columns are asked for, or one other than the grouping column; without them both columns and set functions
abbrev pub shows_mixed : Option (List ℕ) → ItemsTree → Bool
shows_mixed (Some name) all_columns = true
shows_mixed (Some name) (listed list) = list_any (is_other_column name) list
shows_mixed None all_columns = false
shows_mixed None (listed list) = is_mixed list

-- the tests of a SELECT over a table of these columns
abbrev pub select_tests : SelectTree → List Header → Tests
select_tests query headers =
    (refusal.NoSuchColumn, list_any (is_missing headers) (columns_in (shown_items headers query.items)))
    ∷ (refusal.NoSuchColumn, condition_misses headers query.condition)
    ∷ (refusal.NoSuchColumn, grouping_is_missing headers query.grouping)
    ∷ (refusal.OverLimit, lists_too_long query.condition)
    ∷ (refusal.MixedItems, shows_mixed query.grouping query.items)
    ∷ []

-- the tests of a SELECT, also where STATS precedes it
abbrev pub query_tests : SelectTree → Store → Tests
query_tests query store = over (table_of store query.table) (λ table. select_tests query table.headers)

-- the fault of a CSV file, if it has one
abbrev pub fault_test : Content → Refusal × Bool
fault_test (content.Fault e) = (refusal_of_csv e, true)
fault_test _ = (refusal.OutOfRange, false)

abbrev pub load_tests : Content → Table → Tests
load_tests said table =
    (refusal.UnreadableFile, is_missing_file said)
    ∷ (refusal.FileTooLarge, is_too_large said)
    ∷ fault_test said
    ∷ (refusal.TableFull, nat_lt row_limit (length table.rows + length (lines_in said)))
    ∷ []

abbrev pub save_tests : Table → Tests
save_tests table = (refusal.FileTooLarge, nat_lt file_limit (filed_length table)) ∷ []

abbrev pub open_tests : List ℕ → Store → Content → Tests
open_tests name store said =
    (refusal.TableExists, is_some (table_of store name))
    ∷ (refusal.OverLimit, nat_le table_limit (length store))
    ∷ (refusal.UnreadableFile, is_missing_file said)
    ∷ (refusal.FileTooLarge, is_too_large said)
    ∷ (refusal.NotTableFile, is_no_table said)
    ∷ []

-- a statement's tests, given what its file tells it
abbrev pub tests_of : Store → Content → StatementTree → Tests
tests_of store said (create_table name columns) = create_tests (map header_of columns) name store
tests_of store said (drop_table name) = over (table_of store name) (λ table. [])
tests_of store said list_tables = []
tests_of store said (insert name columns rows) = over (table_of store name) (λ table. insert_tests (target_columns table.headers columns) rows table)
tests_of store said (update name sets condition) = over (table_of store name) (update_tests sets condition)
tests_of store said (delete name condition) = over (table_of store name) (λ table. delete_tests condition table)
tests_of store said (rebuild name choices) = over (table_of store name) (rebuild_tests choices)
tests_of store said (select query) = query_tests query store
tests_of store said (stats query) = query_tests query store
tests_of store said (load name file first) = over (table_of store name) (load_tests said)
tests_of store said (save name file) = over (table_of store name) save_tests
tests_of store said (open_table name file) = open_tests name store said

-- the tests that need neither a file nor rows
abbrev pub early_tests : Store → StatementTree → Tests
early_tests store (update name sets condition) = over (table_of store name) (λ table. set_tests table.headers sets condition)
early_tests store (load name file first) = over (table_of store name) (λ table. [])
early_tests store (open_table name file) = (refusal.TableExists, is_some (table_of store name)) ∷ (refusal.OverLimit, nat_le table_limit (length store)) ∷ []
early_tests store statement = tests_of store content.Nothing statement

-- why a statement is refused whatever its file contains, and whichever rows are found
abbrev pub refused_early : Store → StatementTree → Option Refusal
refused_early store statement = first_that_holds (early_tests store statement)
