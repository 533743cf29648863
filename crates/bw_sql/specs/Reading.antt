-- Parsing terminals from left to right: the grammar as functions, which the parser's private functions cite.
use Rattle.std.specs.Prelude.{◌≡◌, ℕ, ℤ, ◌^◌, ◌<◌, zero, suc, pos, neg_ℤ, nat_lt, nat_le, if◌then◌else◌, List, [], ◌∷◌, ◌++◌, length, Option, Some, None, Result, Ok, Err}
use Rattle.std.specs.Option.{option_and_then}
use Rattle.bw_lex.specs.declared.fault.SqlFault.{SqlFault}
use Rattle.bw_lex.specs.declared.fault.SqlFault.TheVariants as faults
use Rattle.bw_lex.specs.declared.token.CompareOp.TheVariants.{Eq}
use Rattle.bw_lex.specs.declared.token.Symbol.TheVariants as s
use Rattle.bw_sql.specs.declared.keyword.Keyword.TheVariants as k
use Rattle.bw_sql.specs.declared.terminal.StatementWord.{StatementWord}
use Rattle.bw_sql.specs.declared.terminal.StatementWord.TheVariants.{Load, Rebuild, Save, Stats, Tables}
use Rattle.bw_sql.specs.declared.terminal.Terminal.{Terminal}
use Rattle.bw_sql.specs.declared.terminal.Terminal.TheVariants as t
use Rattle.bw_sql.specs.declared.tree.TypeWord.{TypeWord}
use Rattle.bw_sql.specs.declared.tree.TypeWord.TheVariants.{BigInt, Integer}
use Rattle.bw_sql.specs.declared.tree.LayoutWord.{LayoutWord}
use Rattle.bw_sql.specs.declared.tree.KindWord.{KindWord}
use Rattle.bw_sql.specs.declared.tree.Operand.{Operand}
use Rattle.bw_sql.specs.declared.tree.Operand.TheVariants.{Column, Constant}
use Rattle.bw_sql.specs.declared.tree.TruthWord.{TruthWord}
use Rattle.bw_sql.specs.declared.tree.TruthWord.TheVariants.{True, False, Unknown}
use Rattle.bw_sql.specs.Grammar.{all_of, any_of}
use Rattle.bw_sql.specs.declared.tree.ColumnDefinition.{ColumnDefinition}
use Rattle.bw_sql.specs.declared.tree.LayoutChoice.{LayoutChoice}
use Rattle.bw_sql.specs.declared.tree.SetClause.{SetClause}
use Rattle.bw_sql.specs.declared.tree.SelectItem.{SelectItem}
use Rattle.bw_sql.specs.declared.tree.SelectItem.TheVariants as items
use Rattle.bw_sql.specs.declared.tree.SetFunction.{SetFunction}
use Rattle.bw_sql.specs.declared.tree.SetFunction.TheVariants.{Count}
use Rattle.bw_sql.specs.declared.tree.FirstRecord.{FirstRecord}
use Rattle.bw_sql.specs.declared.tree.FirstRecord.TheVariants.{Row}
use Rattle.bw_sql.specs.Words.{first_record_of, function_of, kind_of, layout_of, statement_word_of}
use Rattle.bw_sql.specs.Tree.{ConditionTree, among, between, comparison, negated, null, tested, ItemsTree, all_columns, listed, StatementTree, create_table, delete, drop_table, insert, list_tables, load, open_table, rebuild, save, SelectTree, select, stats, update}

-- what is parsed, and the terminals after it; `None` is a syntax error
abbrev pub Read : Type 0 → Type 0
Read A = Option (A × List Terminal)

infixl 10 ◌>>=◌
abbrev pub ◌>>=◌ : {A B : Type 0} → Option A → (A → Option B) → Option B
o >>= f = option_and_then f o

-- What a function returned, and the terminals that it left, are what parsing yields, unless memory ran out.
abbrev pub Fails : {A : Type 0} → SqlFault → Option A → Type 0
Fails faults.Memory read = Unit {0}
Fails faults.Syntax read = read ≡ None
Fails faults.TooLong read = ⊥
Fails faults.TooDeep read = ⊥
Fails faults.BigNumber read = ⊥

abbrev pub Gives : {X A : Type 0} → (X → A) → Result X SqlFault → List Terminal → Read A → Type 0
Gives view (Ok x) rest read = read ≡ Some (view x, rest)
Gives view (Err e) rest read = Fails e read

-- the same for a whole statement, after which nothing is left
abbrev pub GivesAll : {X A : Type 0} → (X → A) → Result X SqlFault → Option A → Type 0
GivesAll view (Ok x) read = read ≡ Some (view x)
GivesAll view (Err e) read = Fails e read

-- a row was appended to the values
pub record AppendsRow (old_values new_values : List (Option ℤ)) (width : ℕ) (read : ℕ → List Terminal → Read (List (Option ℤ))) (old new : List Terminal) : Type 0 where
  pub row : List (Option ℤ)
  pub appended : new_values ≡ old_values ++ row
  pub wide : width ≡ length row
  pub found : (n : ℕ) → length old < n → read n old ≡ Some (row, new)

abbrev pub GivesRow : List (Option ℤ) → List (Option ℤ) → Result ℕ SqlFault → (ℕ → List Terminal → Read (List (Option ℤ))) → List Terminal → List Terminal → Type 0
GivesRow old_values new_values (Ok width) read old new = AppendsRow old_values new_values width read old new
GivesRow old_values new_values (Err e) read old new = (n : ℕ) → length old < n → Fails e (read n old)

abbrev pub after_comma : List Terminal → Option (List Terminal)
after_comma (t.Symbol s.Comma ∷ ts) = Some ts
after_comma _ = None

abbrev pub after_open : List Terminal → Option (List Terminal)
after_open (t.Symbol s.Open ∷ ts) = Some ts
after_open _ = None

abbrev pub after_close : List Terminal → Option (List Terminal)
after_close (t.Symbol s.Close ∷ ts) = Some ts
after_close _ = None

abbrev pub after_table : List Terminal → Option (List Terminal)
after_table (t.Keyword k.Table ∷ ts) = Some ts
after_table _ = None

abbrev pub after_into : List Terminal → Option (List Terminal)
after_into (t.Keyword k.Into ∷ ts) = Some ts
after_into _ = None

abbrev pub after_values : List Terminal → Option (List Terminal)
after_values (t.Keyword k.Values ∷ ts) = Some ts
after_values _ = None

abbrev pub after_from : List Terminal → Option (List Terminal)
after_from (t.Keyword k.From ∷ ts) = Some ts
after_from _ = None

abbrev pub after_by : List Terminal → Option (List Terminal)
after_by (t.Keyword k.By ∷ ts) = Some ts
after_by _ = None

abbrev pub after_to : List Terminal → Option (List Terminal)
after_to (t.Keyword k.To ∷ ts) = Some ts
after_to _ = None

abbrev pub after_and : List Terminal → Option (List Terminal)
after_and (t.Keyword k.And ∷ ts) = Some ts
after_and _ = None

abbrev pub after_or : List Terminal → Option (List Terminal)
after_or (t.Keyword k.Or ∷ ts) = Some ts
after_or _ = None

abbrev pub after_null : List Terminal → Option (List Terminal)
after_null (t.Keyword k.Null ∷ ts) = Some ts
after_null _ = None

abbrev pub after_set : List Terminal → Option (List Terminal)
after_set (t.Keyword k.Set ∷ ts) = Some ts
after_set _ = None

abbrev pub after_using : List Terminal → Option (List Terminal)
after_using (t.Keyword k.Using ∷ ts) = Some ts
after_using _ = None

abbrev pub after_equals : List Terminal → Option (List Terminal)
after_equals (t.Symbol (s.Compare Eq) ∷ ts) = Some ts
after_equals _ = None

-- with one more value at the beginning
abbrev pub with_first : {A : Type 0} → A → Read (List A) → Read (List A)
with_first x read = read >>= λ y. Some (x ∷ y.0, y.1)

-- with more values at the beginning
abbrev pub with_front : {A : Type 0} → List A → Read (List A) → Read (List A)
with_front xs read = read >>= λ y. Some (xs ++ y.0, y.1)

-- one more value and what follows it, after a separator; else nothing
abbrev pub go_on : {A : Type 0} → (List Terminal → Read A) → (List Terminal → Read (List A)) → List Terminal → Option (List Terminal) → Read (List A)
go_on read more rest None = Some ([], rest)
go_on read more rest (Some ts) = read ts >>= λ x. with_first x.0 (more x.1)

-- values with a separator before each, at most n
unfoldable pub more_at : {A : Type 0} → (List Terminal → Option (List Terminal)) → (List Terminal → Read A) → ℕ → List Terminal → Read (List A)
more_at after read zero ts = None
more_at after read (suc n) ts = go_on read (more_at after read n) ts (after ts)

-- values with a separator between two of them
unfoldable pub parts_at : {A : Type 0} → (List Terminal → Option (List Terminal)) → (List Terminal → Read A) → ℕ → List Terminal → Read (List A)
parts_at after read n ts = read ts >>= λ x. with_first x.0 (more_at after read n x.1)

abbrev pub map_first : {A B : Type 0} → (A → B) → Read A → Read B
map_first f read = read >>= λ x. Some (f x.0, x.1)

-- a value, if there is one, and the rest
abbrev pub with_rest : {A : Type 0} → Option A → List Terminal → Read A
with_rest None rest = None
with_rest (Some x) rest = Some (x, rest)

-- a value, if the terminal expected after it came before the rest
abbrev pub closed : {A : Type 0} → A → Option (List Terminal) → Read A
closed x None = None
closed x (Some rest) = Some (x, rest)

unfoldable pub name_at : List Terminal → Read (List ℕ)
name_at (t.Name name ∷ ts) = Some (name, ts)
name_at _ = None

unfoldable pub names_at : ℕ → List Terminal → Read (List (List ℕ))
names_at n ts = parts_at after_comma name_at n ts

unfoldable pub number_at : List Terminal → Read ℕ
number_at (t.Number n ∷ ts) = Some (n, ts)
number_at _ = None

-- the number with a plus sign, if it fits 64 bits
unfoldable pub positive : ℕ → Option ℤ
positive n = if nat_lt n (2 ^ 63) then Some (pos n) else None

unfoldable pub negative : ℕ → Option ℤ
negative n = if nat_le n (2 ^ 63) then Some (neg_ℤ (pos n)) else None

unfoldable pub literal_at : List Terminal → Read ℤ
literal_at (t.Symbol s.Minus ∷ ts) = number_at ts >>= λ n. with_rest (negative n.0) n.1
literal_at (t.Symbol s.Plus ∷ ts) = number_at ts >>= λ n. with_rest (positive n.0) n.1
literal_at ts = number_at ts >>= λ n. with_rest (positive n.0) n.1

unfoldable pub value_at : List Terminal → Read (Option ℤ)
value_at (t.Keyword k.Null ∷ ts) = Some (None, ts)
value_at ts = map_first Some (literal_at ts)

unfoldable pub values_at : ℕ → List Terminal → Read (List (Option ℤ))
values_at n ts = parts_at after_comma value_at n ts

unfoldable pub row_at : ℕ → List Terminal → Read (List (Option ℤ))
row_at n (t.Symbol s.Open ∷ ts) = values_at n ts >>= λ values. closed values.0 (after_close values.1)
row_at n _ = None

unfoldable pub rows_at : ℕ → List Terminal → Read (List (List (Option ℤ)))
rows_at n ts = parts_at after_comma (row_at n) n ts

unfoldable pub type_at : List Terminal → Read TypeWord
type_at (t.Keyword k.Integer ∷ ts) = Some (Integer, ts)
type_at (t.Keyword k.Int ∷ ts) = Some (Integer, ts)
type_at (t.Keyword k.Bigint ∷ ts) = Some (BigInt, ts)
type_at _ = None

unfoldable pub layout_at : List Terminal → Read LayoutWord
layout_at (t.Name word ∷ ts) = with_rest (layout_of word) ts
layout_at _ = None

unfoldable pub using_at : List Terminal → Read (Option LayoutWord)
using_at (t.Keyword k.Using ∷ ts) = map_first Some (layout_at ts)
using_at ts = Some (None, ts)

-- a kind is taken if there is one
abbrev pub kind_taken : Option KindWord → List Terminal → List Terminal → Option KindWord × List Terminal
kind_taken None before after = (None, before)
kind_taken (Some word) before after = (Some word, after)

unfoldable pub kind_at : List Terminal → Option KindWord × List Terminal
kind_at (t.Name word ∷ ts) = kind_taken (kind_of word) (t.Name word ∷ ts) ts
kind_at ts = (None, ts)

abbrev pub defined : List ℕ → TypeWord → Option LayoutWord → Option KindWord × List Terminal → Read ColumnDefinition
defined name column_type layout kind = Some (record { name = name; column_type = column_type; layout = layout; kind = kind.0 }, kind.1)

unfoldable pub column_at : List Terminal → Read ColumnDefinition
column_at ts =
    name_at ts >>= λ name. type_at name.1 >>= λ word. using_at word.1 >>= λ layout.
    defined name.0 word.0 layout.0 (kind_at layout.1)

unfoldable pub columns_at : ℕ → List Terminal → Read (List ColumnDefinition)
columns_at n ts = parts_at after_comma column_at n ts

-- what follows CREATE
unfoldable pub create_at : ℕ → List Terminal → Read StatementTree
create_at n ts =
    after_table ts >>= λ us. name_at us >>= λ name. after_open name.1 >>= λ vs. columns_at n vs >>= λ definitions.
    closed (create_table name.0 definitions.0) (after_close definitions.1)

-- what follows DROP
unfoldable pub drop_at : List Terminal → Read StatementTree
drop_at ts = after_table ts >>= λ us. map_first drop_table (name_at us)

unfoldable pub column_list_at : ℕ → List Terminal → Read (Option (List (List ℕ)))
column_list_at n (t.Symbol s.Open ∷ ts) = names_at n ts >>= λ names. closed (Some names.0) (after_close names.1)
column_list_at n ts = Some (None, ts)

-- what follows INSERT
unfoldable pub insert_at : ℕ → List Terminal → Read StatementTree
insert_at n ts =
    after_into ts >>= λ us. name_at us >>= λ name. column_list_at n name.1 >>= λ names. after_values names.1 >>= λ vs.
    rows_at n vs >>= λ rows. Some (insert name.0 names.0 rows.0, rows.1)

unfoldable pub function_at : List Terminal → Read SetFunction
function_at (t.Keyword word ∷ ts) = with_rest (function_of word) ts
function_at _ = None

-- the argument of a set function
unfoldable pub argument_at : SetFunction → List Terminal → Read SelectItem
argument_at Count (t.Symbol s.Star ∷ ts) = Some (items.CountRows, ts)
argument_at f ts = map_first (items.Function f) (name_at ts)

unfoldable pub function_item_at : List Terminal → Read SelectItem
function_item_at ts = function_at ts >>= λ f. after_open f.1 >>= λ us. argument_at f.0 us >>= λ item. closed item.0 (after_close item.1)

unfoldable pub item_at : List Terminal → Read SelectItem
item_at (t.Name word ∷ ts) = Some (items.Column word, ts)
item_at ts = function_item_at ts

unfoldable pub item_list_at : ℕ → List Terminal → Read (List SelectItem)
item_list_at n ts = parts_at after_comma item_at n ts

unfoldable pub items_at : ℕ → List Terminal → Read ItemsTree
items_at n (t.Symbol s.Star ∷ ts) = Some (all_columns, ts)
items_at n ts = map_first listed (item_list_at n ts)

unfoldable pub operand_at : List Terminal → Read Operand
operand_at (t.Name name ∷ ts) = Some (Column name, ts)
operand_at ts = map_first Constant (value_at ts)

unfoldable pub bounds_at : Operand → List Terminal → Read ConditionTree
bounds_at x ts = operand_at ts >>= λ low. after_and low.1 >>= λ us. map_first (between x low.0) (operand_at us)

unfoldable pub among_at : ℕ → Operand → List Terminal → Read ConditionTree
among_at n x ts = after_open ts >>= λ us. values_at n us >>= λ values. closed (among x values.0) (after_close values.1)

-- BETWEEN or IN
unfoldable pub range_at : ℕ → Operand → List Terminal → Read ConditionTree
range_at n x (t.Keyword k.Between ∷ ts) = bounds_at x ts
range_at n x (t.Keyword k.In ∷ ts) = among_at n x ts
range_at n x _ = None

-- what follows IS after an operand
unfoldable pub null_at : Operand → List Terminal → Read ConditionTree
null_at x (t.Keyword k.Null ∷ ts) = Some (null x, ts)
null_at x (t.Keyword k.Not ∷ ts) = after_null ts >>= λ us. Some (negated (null x), us)
null_at x _ = None

unfoldable pub tail_at : ℕ → Operand → List Terminal → Read ConditionTree
tail_at n x (t.Symbol (s.Compare op) ∷ ts) = map_first (comparison x op) (operand_at ts)
tail_at n x (t.Keyword k.Is ∷ ts) = null_at x ts
tail_at n x (t.Keyword k.Not ∷ ts) = map_first negated (range_at n x ts)
tail_at n x ts = range_at n x ts

unfoldable pub predicate_at : ℕ → List Terminal → Read ConditionTree
predicate_at n ts = operand_at ts >>= λ x. tail_at n x.0 x.1

unfoldable pub truth_at : List Terminal → Read TruthWord
truth_at (t.Keyword k.True ∷ ts) = Some (True, ts)
truth_at (t.Keyword k.False ∷ ts) = Some (False, ts)
truth_at (t.Keyword k.Unknown ∷ ts) = Some (Unknown, ts)
truth_at _ = None

-- what follows IS after a condition
unfoldable pub is_at : ConditionTree → List Terminal → Read ConditionTree
is_at c (t.Keyword k.Not ∷ ts) = map_first (λ word. negated (tested c word)) (truth_at ts)
is_at c ts = map_first (tested c) (truth_at ts)

-- the IS test after a condition, if there is one
unfoldable pub tested_at : ConditionTree → List Terminal → Read ConditionTree
tested_at c (t.Keyword k.Is ∷ ts) = is_at c ts
tested_at c ts = Some (c, ts)

unfoldable pub test_by : (List Terminal → Read ConditionTree) → List Terminal → Read ConditionTree
test_by primary ts = primary ts >>= λ x. tested_at x.0 x.1

unfoldable pub factor_by : (List Terminal → Read ConditionTree) → List Terminal → Read ConditionTree
factor_by primary (t.Keyword k.Not ∷ ts) = map_first negated (test_by primary ts)
factor_by primary ts = test_by primary ts

unfoldable pub term_by : (List Terminal → Read ConditionTree) → ℕ → List Terminal → Read ConditionTree
term_by primary n ts = map_first all_of (parts_at after_and (factor_by primary) n ts)

unfoldable pub condition_by : (List Terminal → Read ConditionTree) → ℕ → List Terminal → Read ConditionTree
condition_by primary n ts = map_first any_of (parts_at after_or (term_by primary n) n ts)

-- fuel n is enough for fewer than n terminals
unfoldable pub primary_at : ℕ → List Terminal → Read ConditionTree
primary_at zero ts = None
primary_at (suc n) (t.Symbol s.Open ∷ ts) = condition_by (primary_at n) n ts >>= λ x. closed x.0 (after_close x.1)
primary_at (suc n) ts = predicate_at (suc n) ts

unfoldable pub condition_at : ℕ → List Terminal → Read ConditionTree
condition_at n ts = condition_by (primary_at n) n ts

unfoldable pub filter_at : ℕ → List Terminal → Read (Option ConditionTree)
filter_at n (t.Keyword k.Where ∷ ts) = map_first Some (condition_at n ts)
filter_at n ts = Some (None, ts)

unfoldable pub grouping_at : List Terminal → Read (Option (List ℕ))
grouping_at (t.Keyword k.Group ∷ ts) = after_by ts >>= λ us. map_first Some (name_at us)
grouping_at ts = Some (None, ts)

-- what follows SELECT
unfoldable pub select_at : ℕ → List Terminal → Read SelectTree
select_at n ts =
    items_at n ts >>= λ items. after_from items.1 >>= λ us. name_at us >>= λ table. filter_at n table.1 >>= λ filter. grouping_at filter.1 >>= λ grouping.
    Some (record { items = items.0; table = table.0; condition = filter.0; grouping = grouping.0 }, grouping.1)

abbrev pub set_to : List ℕ → Operand → SetClause
set_to column source = record { column = column; source = source }

unfoldable pub set_at : List Terminal → Read SetClause
set_at ts = name_at ts >>= λ name. after_equals name.1 >>= λ us. map_first (set_to name.0) (operand_at us)

unfoldable pub sets_at : ℕ → List Terminal → Read (List SetClause)
sets_at n ts = parts_at after_comma set_at n ts

-- what follows UPDATE
unfoldable pub update_at : ℕ → List Terminal → Read StatementTree
update_at n ts =
    name_at ts >>= λ table. after_set table.1 >>= λ us. sets_at n us >>= λ sets. filter_at n sets.1 >>= λ filter.
    Some (update table.0 sets.0 filter.0, filter.1)

-- what follows DELETE
unfoldable pub delete_at : ℕ → List Terminal → Read StatementTree
delete_at n ts = after_from ts >>= λ us. name_at us >>= λ table. map_first (delete table.0) (filter_at n table.1)

abbrev pub chosen : List ℕ → LayoutWord → Option KindWord × List Terminal → Read LayoutChoice
chosen column layout kind = Some (record { column = column; layout = layout; kind = kind.0 }, kind.1)

unfoldable pub choice_at : List Terminal → Read LayoutChoice
choice_at ts = name_at ts >>= λ name. after_using name.1 >>= λ us. layout_at us >>= λ layout. chosen name.0 layout.0 (kind_at layout.1)

unfoldable pub choices_at : ℕ → List Terminal → Read (List LayoutChoice)
choices_at n ts = parts_at after_comma choice_at n ts

unfoldable pub choice_list_at : ℕ → List Terminal → Read (List LayoutChoice)
choice_list_at n (t.Symbol s.Open ∷ ts) = choices_at n ts >>= λ choices. closed choices.0 (after_close choices.1)
choice_list_at n ts = Some ([], ts)

-- what follows REBUILD
unfoldable pub rebuild_at : ℕ → List Terminal → Read StatementTree
rebuild_at n ts = name_at ts >>= λ table. map_first (rebuild table.0) (choice_list_at n table.1)

-- the content of a text
unfoldable pub text_at : List Terminal → Read (List ℕ)
text_at (t.Text says ∷ ts) = Some (says, ts)
text_at _ = None

-- FROM and a text
unfoldable pub source_at : List Terminal → Read (List ℕ)
source_at ts = after_from ts >>= λ us. text_at us

-- what follows WITH
unfoldable pub with_at : List Terminal → Read FirstRecord
with_at (t.Name word ∷ ts) = with_rest (first_record_of word) ts
with_at _ = None

unfoldable pub first_record_at : List Terminal → Read FirstRecord
first_record_at (t.Keyword k.With ∷ ts) = with_at ts
first_record_at ts = Some (Row, ts)

-- what follows LOAD
unfoldable pub load_at : List Terminal → Read StatementTree
load_at ts = name_at ts >>= λ table. source_at table.1 >>= λ file. map_first (load table.0 file.0) (first_record_at file.1)

-- what follows SAVE
unfoldable pub save_at : List Terminal → Read StatementTree
save_at ts = name_at ts >>= λ table. after_to table.1 >>= λ us. map_first (save table.0) (text_at us)

-- what follows OPEN
unfoldable pub open_at : List Terminal → Read StatementTree
open_at ts = name_at ts >>= λ table. map_first (open_table table.0) (source_at table.1)

-- what follows STATS
unfoldable pub stats_at : ℕ → List Terminal → Read StatementTree
stats_at n (t.Keyword k.Select ∷ ts) = map_first stats (select_at n ts)
stats_at n ts = None

unfoldable pub statement_word_at : List Terminal → Read StatementWord
statement_word_at (t.Name word ∷ ts) = with_rest (statement_word_of word) ts
statement_word_at _ = None

-- what follows a name that begins a statement
abbrev pub after_word : ℕ → StatementWord → List Terminal → Read StatementTree
after_word n Tables ts = Some (list_tables, ts)
after_word n Rebuild ts = rebuild_at n ts
after_word n Load ts = load_at ts
after_word n Save ts = save_at ts
after_word n Stats ts = stats_at n ts

unfoldable pub worded_at : ℕ → List Terminal → Read StatementTree
worded_at n ts = statement_word_at ts >>= λ word. after_word n word.0 word.1

unfoldable pub statement_at : ℕ → List Terminal → Read StatementTree
statement_at n (t.Keyword k.Create ∷ ts) = create_at n ts
statement_at n (t.Keyword k.Drop ∷ ts) = drop_at ts
statement_at n (t.Keyword k.Insert ∷ ts) = insert_at n ts
statement_at n (t.Keyword k.Update ∷ ts) = update_at n ts
statement_at n (t.Keyword k.Delete ∷ ts) = delete_at n ts
statement_at n (t.Keyword k.Select ∷ ts) = map_first select (select_at n ts)
statement_at n (t.Keyword k.Open ∷ ts) = open_at ts
statement_at n ts = worded_at n ts

-- nothing is left
abbrev pub ended : {A : Type 0} → A → List Terminal → Option A
ended x [] = Some x
ended x (t ∷ ts) = None

unfoldable pub whole_at : ℕ → List Terminal → Option StatementTree
whole_at n ts = statement_at n ts >>= λ statement. ended statement.0 statement.1
