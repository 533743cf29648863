-- A SELECT sees the names and the rows of a table, and no layout or kind.
use Rattle.std.proofs.Common.{◌≡◌, ◌+◌, ℕ, ◌||◌, not, nat_lt, List, [], ◌∷◌, length, map, Option, None, Some, is_some, if◌then◌else◌, refl, sym, ap, ◌∙◌}
use Rattle.std.specs.Prelude.{filter}
use Rattle.std.specs.List.{list_any, position_or_len}
use Rattle.std.specs.Str.{bytes_eq}
use Rattle.std.proofs.lemmas.List.{length-map}
use Rattle.bw_sql.specs.Tree.{ConditionTree, ConditionTrees, ItemsTree, SelectTree, all_columns, among, between, comparison, each_of, listed, more, negated, none, null, select, some_of, tested}
use Rattle.bw_sql.specs.declared.tree.Operand.{Operand}
use Rattle.bw_sql.specs.declared.tree.Operand.TheVariants.{Column, Constant}
use Rattle.bw_sql.specs.declared.tree.SelectItem.{SelectItem}
use Rattle.bw_sql.specs.declared.tree.SelectItem.TheVariants as item
use Rattle.bw_model.specs.Condition.{each_truth, found_rows, is_found, some_truth, truth_at, value_of}
use Rattle.bw_model.specs.Groups.{Group, groups_by}
use Rattle.bw_model.specs.Refusals.{condition_misses, first_that_holds, grouping_is_missing, is_missing, lists_too_long, names_missing, operand_is_missing, over, select_tests, shows_mixed, some_names_missing, tests_of}
use Rattle.bw_model.specs.Select.{answer, columns_in, folded, has_functions, heading_of, lines_for, said_in, said_of, shown, shown_items}
use Rattle.bw_cells.specs.SetFunctions.{known}
use Rattle.bw_model.specs.Step.{outcome_of, refused_or, table_or_none}
use Rattle.bw_model.specs.Store.{Header, Row, Store, Table, names, place_of, table_of, value_from}
use Rattle.bw_model.specs.declared.content.Content.{Content}
use Rattle.bw_model.specs.declared.refusal.Refusal.{Refusal}
use Rattle.bw_model.specs.declared.refusal.Refusal.TheVariants as refusal
use Rattle.bw_model.specs.declared.reply.Reply.{Reply}
use Rattle.bw_model.specs.declared.reply.Reply.TheVariants.{Rows}

-- columns of the same names have the same places

same_first : (headers others : List Header) (name : List ℕ) → names headers ≡ names others → position_or_len (λ header. bytes_eq name header.name) headers ≡ position_or_len (λ header. bytes_eq name header.name) others
same_first [] [] name e = refl
same_first [] (second ∷ others) name e = cc
same_first (header ∷ headers) [] name e = cc
same_first (header ∷ headers) (second ∷ others) name e =
    let first : header.name ≡ second.name = cc in
    let rest : names headers ≡ names others = cc in
    let behind = same_first headers others name rest in
    (λ j. if not (bytes_eq name (first j)) then 1 + behind j else 0)

same_length : (headers others : List Header) → names headers ≡ names others → length headers ≡ length others
same_length headers others e = sym (length-map headers (λ header. header.name)) ∙ ap length e ∙ length-map others (λ header. header.name)

same_place : (headers others : List Header) (name : List ℕ) → names headers ≡ names others → place_of headers name ≡ place_of others name
same_place headers others name e =
    let first = same_first headers others name e in
    let long = same_length headers others e in
    (λ j. if nat_lt (first j) (long j) then Some (first j) else None)

abbrev HavePlaces : List Header → List Header → Type 0
HavePlaces headers others = (name : List ℕ) → place_of headers name ≡ place_of others name

-- a condition finds the same rows

value_same : (headers others : List Header) → HavePlaces headers others → (row : Row) (x : Operand) → value_of headers row x ≡ value_of others row x
value_same headers others same row (Column name) = ap (value_from row) (same name)
value_same headers others same row (Constant value) = refl

mutual
  truth_same : (headers others : List Header) → HavePlaces headers others → (row : Row) (condition : ConditionTree) → truth_at headers row condition ≡ truth_at others row condition
  truth_same headers others same row (each_of parts) = each_same headers others same row parts
  truth_same headers others same row (some_of parts) = some_same headers others same row parts
  truth_same headers others same row (negated part) = rw (truth_same headers others same row part) refl
  truth_same headers others same row (tested part word) = rw (truth_same headers others same row part) refl
  truth_same headers others same row (comparison x op y) = rw (value_same headers others same row x, value_same headers others same row y) refl
  truth_same headers others same row (between x low high) =
      rw (value_same headers others same row x, value_same headers others same row low, value_same headers others same row high) refl
  truth_same headers others same row (among x entries) = rw (value_same headers others same row x) refl
  truth_same headers others same row (null x) = rw (value_same headers others same row x) refl

  each_same : (headers others : List Header) → HavePlaces headers others → (row : Row) (parts : ConditionTrees) → each_truth headers row parts ≡ each_truth others row parts
  each_same headers others same row none = refl
  each_same headers others same row (more part parts) = rw (truth_same headers others same row part, each_same headers others same row parts) refl

  some_same : (headers others : List Header) → HavePlaces headers others → (row : Row) (parts : ConditionTrees) → some_truth headers row parts ≡ some_truth others row parts
  some_same headers others same row none = refl
  some_same headers others same row (more part parts) = rw (truth_same headers others same row part, some_same headers others same row parts) refl

found_at : (headers others : List Header) → HavePlaces headers others → (condition : Option ConditionTree) (row : Row) → is_found headers condition row ≡ is_found others condition row
found_at headers others same None row = refl
found_at headers others same (Some condition) row = rw (truth_same headers others same row condition) refl

found_same : (headers others : List Header) → HavePlaces headers others → (condition : Option ConditionTree) → is_found headers condition ≡ is_found others condition
found_same headers others same condition = (λ j. λ row. found_at headers others same condition row j)

-- a column is missing in both or in neither

operand_same : (headers others : List Header) → HavePlaces headers others → (x : Operand) → operand_is_missing headers x ≡ operand_is_missing others x
operand_same headers others same (Column name) = ap (λ place. not (is_some place)) (same name)
operand_same headers others same (Constant value) = refl

mutual
  missing_same : (headers others : List Header) → HavePlaces headers others → (condition : ConditionTree) → names_missing headers condition ≡ names_missing others condition
  missing_same headers others same (each_of parts) = some_missing headers others same parts
  missing_same headers others same (some_of parts) = some_missing headers others same parts
  missing_same headers others same (negated part) = missing_same headers others same part
  missing_same headers others same (tested part word) = missing_same headers others same part
  missing_same headers others same (comparison x op y) = (λ j. operand_same headers others same x j || operand_same headers others same y j)
  missing_same headers others same (between x low high) =
      (λ j. operand_same headers others same x j || operand_same headers others same low j || operand_same headers others same high j)
  missing_same headers others same (among x entries) = operand_same headers others same x
  missing_same headers others same (null x) = operand_same headers others same x

  some_missing : (headers others : List Header) → HavePlaces headers others → (parts : ConditionTrees) → some_names_missing headers parts ≡ some_names_missing others parts
  some_missing headers others same none = refl
  some_missing headers others same (more part parts) = (λ j. missing_same headers others same part j || some_missing headers others same parts j)

condition_same : (headers others : List Header) → HavePlaces headers others → (condition : Option ConditionTree) → condition_misses headers condition ≡ condition_misses others condition
condition_same headers others same None = refl
condition_same headers others same (Some condition) = missing_same headers others same condition

-- the items, their tests and their lines

items_same : (headers others : List Header) (items : ItemsTree) → names headers ≡ names others → shown_items headers items ≡ shown_items others items
items_same headers others all_columns e = ap (map item.Column) e
items_same headers others (listed list) e = refl

said_same : (headers others : List Header) → HavePlaces headers others → (rows : List Row) (x : SelectItem) → said_of headers rows x ≡ said_of others rows x
said_same headers others same rows item.CountRows = refl
said_same headers others same rows (item.Function f name) = (λ j. folded f (known (map (λ row. value_from row (same name j)) rows)))
said_same headers others same rows (item.Column name) = refl

said_in_same : (headers others : List Header) → HavePlaces headers others → (group : Group) (x : SelectItem) → said_in headers group x ≡ said_in others group x
said_in_same headers others same group item.CountRows = refl
said_in_same headers others same group (item.Function f name) = said_same headers others same group.rows (item.Function f name)
said_in_same headers others same group (item.Column name) = refl

lines_same : (headers others : List Header) → HavePlaces headers others → (list : List SelectItem) (grouping : Option (List ℕ)) (rows : List Row) → lines_for headers list grouping rows ≡ lines_for others list grouping rows
lines_same headers others same list None rows =
    (λ j. if has_functions list then map (λ x. said_same headers others same rows x j) list ∷ []
    else map (λ row. map (λ name. shown (value_from row (same name j))) (columns_in list)) rows)
lines_same headers others same list (Some name) rows = (λ j. map (λ group. map (λ x. said_in_same headers others same group x j) list) (groups_by (same name j) rows))

grouping_same : (headers others : List Header) → HavePlaces headers others → (grouping : Option (List ℕ)) → grouping_is_missing headers grouping ≡ grouping_is_missing others grouping
grouping_same headers others same None = refl
grouping_same headers others same (Some name) = ap (λ place. not (is_some place)) (same name)

-- what a SELECT over a table says; the table's name is in no test and in no answer
abbrev said_for : SelectTree → Option Table → Reply
said_for query there = (refused_or (first_that_holds (over there (λ table. select_tests query table.headers))) [] (Rows (answer (table_or_none there) query), [])).0

any_store : (first : Option Refusal) (store : Store) (reply : Reply) → (refused_or first store (reply, store)).0 ≡ (refused_or first [] (reply, [])).0
any_store None store reply = refl
any_store (Some refusal) store reply = refl

-- the same SELECT of a table of this name
abbrev asked_of : List ℕ → SelectTree → SelectTree
asked_of name query = record { items = query.items; table = name; condition = query.condition; grouping = query.grouping }

said_is : (store : Store) (said : Content) (name : List ℕ) (query : SelectTree) → (outcome_of store said (select (asked_of name query))).0 ≡ said_for query (table_of store name)
said_is store said name query = any_store (first_that_holds (tests_of store said (select (asked_of name query)))) store (Rows (answer (table_or_none (table_of store name)) query))

module _ (table twin : Table) (named : names table.headers ≡ names twin.headers) (filled : table.rows ≡ twin.rows) (query : SelectTree) where
  places : HavePlaces table.headers twin.headers
  places name = same_place table.headers twin.headers name named

  shown_same : shown_items table.headers query.items ≡ shown_items twin.headers query.items
  shown_same = items_same table.headers twin.headers query.items named

  tests_same : select_tests query table.headers ≡ select_tests query twin.headers
  tests_same =
      let missing : is_missing table.headers ≡ is_missing twin.headers = (λ j. λ name. not (is_some (places name j))) in
      let misses = condition_same table.headers twin.headers places query.condition in
      let lacks = grouping_same table.headers twin.headers places query.grouping in
      (λ j. (refusal.NoSuchColumn, list_any (missing j) (columns_in (shown_same j)))
      ∷ (refusal.NoSuchColumn, misses j)
      ∷ (refusal.NoSuchColumn, lacks j)
      ∷ (refusal.OverLimit, lists_too_long query.condition)
      ∷ (refusal.MixedItems, shows_mixed query.grouping query.items)
      ∷ [])

  rows_same : found_rows table query.condition ≡ found_rows twin query.condition
  rows_same = let found = found_same table.headers twin.headers places query.condition in (λ j. filter (found j) (filled j))

  answer_same : answer table query ≡ answer twin query
  answer_same =
      let lines : lines_for table.headers (shown_items table.headers query.items) query.grouping (found_rows table query.condition) ≡ lines_for twin.headers (shown_items twin.headers query.items) query.grouping (found_rows twin query.condition) =
      lines_same table.headers twin.headers places (shown_items table.headers query.items) query.grouping (found_rows table query.condition)
      ∙ (λ j. lines_for twin.headers (shown_same j) query.grouping (rows_same j))
      in
      (λ j. record { headings = map heading_of (shown_same j); lines = lines j })

  said_alike : said_for query (Some table) ≡ said_for query (Some twin)
  said_alike = (λ j. (refused_or (first_that_holds (tests_same j)) [] (Rows (answer_same j), [])).0)

  pub one_reply : (store other : Store) (said also : Content) (name alias : List ℕ) → table_of store name ≡ Some table → table_of other alias ≡ Some twin
      → (outcome_of store said (select (asked_of name query))).0 ≡ (outcome_of other also (select (asked_of alias query))).0
  one_reply store other said also name alias here there =
      said_is store said name query
      ∙ ap (said_for query) here
      ∙ said_alike
      ∙ sym (ap (said_for query) there)
      ∙ sym (said_is other also alias query)
