-- Laws of rows: those that are found in two concatenated lists, and the lines that show columns of them. Also, which answers
-- don't depend on the rows.
use Rattle.std.specs.Prelude.{List, None, Option, Some, [], false, ◌++◌, ◌≡◌}
use Rattle.bw_sql.specs.Tree.{ConditionTree, SelectTree}
use Rattle.bw_sql.specs.declared.tree.SelectItem.{SelectItem}
use Rattle.bw_model.specs.Refusals.{first_that_holds, query_tests}
use Rattle.bw_model.specs.Select.{has_functions, lines_for, shown_items}
use Rattle.bw_model.specs.Store.{Header, Row, Store, Table, table_of}
use Rattle.bw_model.specs.declared.refusal.Refusal.{Refusal}
use Rattle.bw_merge.specs.Merging.{found_in, lines_of}

-- the result for two lists is that for the first, followed by that for the second
abbrev pub Follows : {B : Type 0} → (List Row → List B) → Type 0
Follows f = (rows more : List Row) → f (rows ++ more) ≡ f rows ++ f more

-- the rows that a condition finds
abbrev pub FoundRowsFollow : Type 0
FoundRowsFollow = (headers : List Header) (condition : Option ConditionTree) → Follows (found_in headers condition)

-- the lines of columns
abbrev pub LinesFollow : Type 0
LinesFollow = (headers : List Header) (list : List SelectItem) → has_functions list ≡ false → Follows (lines_for headers list None)

-- the whole answer to a SELECT of columns
abbrev pub AnswersFollow : Type 0
AnswersFollow = (headers : List Header) (query : SelectTree)
    → query.grouping ≡ None → has_functions (shown_items headers query.items) ≡ false → Follows (lines_of headers query)

-- if a condition finds nothing in one list, any SELECT has the same answer for both as for the other
abbrev pub FirstAnswers : Type 0
FirstAnswers = (headers : List Header) (query : SelectTree) (rows more : List Row)
    → found_in headers query.condition more ≡ [] → lines_of headers query (rows ++ more) ≡ lines_of headers query rows

abbrev pub SecondAnswers : Type 0
SecondAnswers = (headers : List Header) (query : SelectTree) (rows more : List Row)
    → found_in headers query.condition rows ≡ [] → lines_of headers query (rows ++ more) ≡ lines_of headers query more

-- why a SELECT is refused, if it is
abbrev pub refused : SelectTree → Store → Option Refusal
refused query store = first_that_holds (query_tests query store)

-- over tables with the same columns it has the same refusal, or none
abbrev pub RefusedAlike : Type 0
RefusedAlike = (query : SelectTree) (store other : Store) (table more : Table)
    → table_of store query.table ≡ Some table
    → table_of other query.table ≡ Some more
    → table.headers ≡ more.headers
    → refused query store ≡ refused query other
