-- Laws of set functions: their results for two concatenated lists, from their results for each.
use Rattle.std.specs.Prelude.{List, None, [], false, true, map, ◌++◌, ◌≡◌, ◌∷◌}
use Rattle.std.specs.List.{list_any}
use Rattle.bw_sql.specs.Tree.{SelectTree}
use Rattle.bw_sql.specs.declared.tree.SelectItem.{SelectItem}
use Rattle.bw_model.specs.Select.{has_functions, said_of, shown_items}
use Rattle.bw_model.specs.Store.{Header, Row}
use Rattle.bw_model.specs.declared.answer.Cell.{Cell}
use Rattle.bw_merge.specs.Merging.{is_median, lines_of, merged, merged_line}

-- the result for two lists is the merge of the results for each
abbrev pub Merges : SelectItem → (List Row → Cell) → Type 0
Merges item said = (rows more : List Row) → said (rows ++ more) ≡ merged item (said rows) (said more)

abbrev pub MergesLine : List SelectItem → (List Row → List Cell) → Type 0
MergesLine list line = (rows more : List Row) → line (rows ++ more) ≡ merged_line list (line rows) (line more)

-- any item except a median
abbrev pub ItemsMerge : Type 0
ItemsMerge = (headers : List Header) (item : SelectItem) → is_median item ≡ false → Merges item (λ rows. said_of headers rows item)

-- a line of such items
abbrev pub LinesMerge : Type 0
LinesMerge = (headers : List Header) (list : List SelectItem)
    → list_any is_median list ≡ false → MergesLine list (λ rows. map (said_of headers rows) list)

-- the whole answer to a SELECT of set functions, which is one line
abbrev pub AnswersMerge : Type 0
AnswersMerge = (headers : List Header) (query : SelectTree) (rows more : List Row) (line other : List Cell)
    → query.grouping ≡ None
    → has_functions (shown_items headers query.items) ≡ true
    → list_any is_median (shown_items headers query.items) ≡ false
    → lines_of headers query rows ≡ line ∷ []
    → lines_of headers query more ≡ other ∷ []
    → lines_of headers query (rows ++ more) ≡ merged_line (shown_items headers query.items) line other ∷ []
