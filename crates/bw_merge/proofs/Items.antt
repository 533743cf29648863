-- What is found in two lists of rows, and what items say of them.
use Rattle.std.proofs.Common.{Bool, List, None, Option, Some, [], ap, append-nil, false, if◌then◌else◌, length-append, map, pos}
use Rattle.std.proofs.Common.{refl, sym, true, ℕ, ℤ, ◌+ℤ◌, ◌++◌, ◌||◌, ◌≡◌, ◌∙◌, ◌∷◌}
use Rattle.std.specs.Int.{int_max, int_min}
use Rattle.std.specs.List.{list_any}
use Rattle.std.proofs.lemmas.List.{map-append}
use Rattle.std.proofs.lemmas.List.Elements.{filter-append, filter_map-append}
use Rattle.bw_cells.specs.SetFunctions.{greatest, known, least, sum}
use Rattle.bw_sql.specs.Tree.{SelectTree}
use Rattle.bw_sql.specs.declared.tree.SelectItem.{SelectItem}
use Rattle.bw_sql.specs.declared.tree.SelectItem.TheVariants as item
use Rattle.bw_sql.specs.declared.tree.SetFunction.{SetFunction}
use Rattle.bw_sql.specs.declared.tree.SetFunction.TheVariants as function
use Rattle.bw_model.specs.Condition.{is_found}
use Rattle.bw_model.specs.Refusals.{first_that_holds, over, select_tests}
use Rattle.bw_model.specs.Select.{columns_in, folded, has_functions, line_of, lines_for, said_of, shown, shown_items}
use Rattle.bw_model.specs.Store.{Header, Row, Value, place_of, value_from}
use Rattle.bw_model.specs.declared.answer.Cell.{Cell}
use Rattle.bw_model.specs.declared.answer.Cell.TheVariants.{Number}
use Rattle.bw_merge.specs.ItemLaws.{AnswersMerge, ItemsMerge, LinesMerge}
use Rattle.bw_merge.specs.Merging.{found_in, is_median, lines_of, merged, merged_line, merging}
use Rattle.bw_merge.specs.RowLaws.{AnswersFollow, FirstAnswers, FoundRowsFollow, LinesFollow, RefusedAlike, SecondAnswers}
use Rattle.bw_merge.proofs.Ends.{greatest_of_both, joined, least_of_both, sum_of_both}

-- rows

pub found_follow : FoundRowsFollow
found_follow headers condition rows more = filter-append (is_found headers condition) rows more

-- the lines of a select without groups, by whether it asks for set functions
lines_by : (headers : List Header) (list : List SelectItem) (rows : List Row) (b : Bool)
    → has_functions list ≡ b
    → lines_for headers list None rows ≡ (if b then map (said_of headers rows) list ∷ [] else map (line_of headers (columns_in list)) rows)
lines_by headers list rows b e =
    ap (λ c. if c then map (said_of headers rows) list ∷ [] else map (line_of headers (columns_in list)) rows) e

pub lines_follow : LinesFollow
lines_follow headers list plain rows more =
    let line = line_of headers (columns_in list) in
    lines_by headers list (rows ++ more) false plain
    ∙ map-append line rows more
    ∙ ap (λ front. front ++ map line more) (sym (lines_by headers list rows false plain))
    ∙ ap (λ back. lines_for headers list None rows ++ back) (sym (lines_by headers list more false plain))

-- a select without groups
ungrouped : (headers : List Header) (rows : List Row) (query : SelectTree)
    → query.grouping ≡ None
    → lines_of headers query rows ≡ lines_for headers (shown_items headers query.items) None (found_in headers query.condition rows)
ungrouped headers rows query none =
    ap (λ g. lines_for headers (shown_items headers query.items) g (found_in headers query.condition rows)) none

pub answers_follow : AnswersFollow
answers_follow headers query none plain rows more =
    let list = shown_items headers query.items in
    let one = found_in headers query.condition rows in
    let two = found_in headers query.condition more in
    ungrouped headers (rows ++ more) query none
    ∙ ap (lines_for headers list None) (found_follow headers query.condition rows more)
    ∙ lines_follow headers list plain one two
    ∙ ap (λ front. front ++ lines_for headers list None two) (sym (ungrouped headers rows query none))
    ∙ ap (λ back. lines_of headers query rows ++ back) (sym (ungrouped headers more query none))

-- any select, by the rows that it finds
pub first_answers : FirstAnswers
first_answers headers query rows more none =
    ap (lines_for headers (shown_items headers query.items) query.grouping)
    (found_follow headers query.condition rows more
    ∙ ap (λ back. found_in headers query.condition rows ++ back) none
    ∙ append-nil (found_in headers query.condition rows))

pub second_answers : SecondAnswers
second_answers headers query rows more none =
    ap (lines_for headers (shown_items headers query.items) query.grouping)
    (found_follow headers query.condition rows more ∙ ap (λ front. front ++ found_in headers query.condition more) none)

pub refused_alike : RefusedAlike
refused_alike query store other table more first second same =
    ap (λ there. first_that_holds (over there (λ t. select_tests query t.headers))) first
    ∙ ap (λ headers. first_that_holds (select_tests query headers)) same
    ∙ sym (ap (λ there. first_that_holds (over there (λ t. select_tests query t.headers))) second)

-- set functions

shown_joined : (it : SelectItem) (f : ℤ → ℤ → ℤ)
    → ((x y : ℤ) → f x y ≡ merging it x y) → (a b : Option ℤ) → shown (joined f a b) ≡ merged it (shown a) (shown b)
shown_joined it f same None b = refl
shown_joined it f same (Some x) None = refl
shown_joined it f same (Some x) (Some y) = ap Number (same x y)

folded_both : (f : SetFunction) (name : List ℕ) (xs ys : List ℤ)
    → is_median (item.Function f name) ≡ false → folded f (xs ++ ys) ≡ merged (item.Function f name) (folded f xs) (folded f ys)
folded_both function.Count name xs ys free = ap (λ n. Number (pos n)) (length-append xs ys)
folded_both function.Sum name xs ys free =
    ap shown (sum_of_both xs ys) ∙ shown_joined (item.Function function.Sum name) ◌+ℤ◌ (λ x y. refl) (sum xs) (sum ys)
folded_both function.Min name xs ys free =
    ap shown (least_of_both xs ys) ∙ shown_joined (item.Function function.Min name) int_min (λ x y. refl) (least xs) (least ys)
folded_both function.Max name xs ys free =
    ap shown (greatest_of_both xs ys) ∙ shown_joined (item.Function function.Max name) int_max (λ x y. refl) (greatest xs) (greatest ys)
folded_both function.Median name xs ys free = absurd cc

pub known_of_both : (f : Row → Value) (rows more : List Row) → known (map f (rows ++ more)) ≡ known (map f rows) ++ known (map f more)
known_of_both f rows more = ap known (map-append f rows more) ∙ filter_map-append (λ value. value) (map f rows) (map f more)

pub items_merge : ItemsMerge
items_merge headers item.CountRows free rows more = ap (λ n. Number (pos n)) (length-append rows more)
items_merge headers (item.Column name) free rows more = refl
items_merge headers (item.Function f name) free rows more =
    let value = λ (row : Row). value_from row (place_of headers name) in
    ap (folded f) (known_of_both value rows more) ∙ folded_both f name (known (map value rows)) (known (map value more)) free

-- lines cell by cell

pub or_first : (a b : Bool) → (a || b) ≡ false → a ≡ false
or_first true b e = absurd cc
or_first false b e = refl

pub or_second : (a b : Bool) → (a || b) ≡ false → b ≡ false
or_second true b e = absurd cc
or_second false b e = e

module _ (both one two : SelectItem → Cell) (merge : (it : SelectItem) → is_median it ≡ false → both it ≡ merged it (one it) (two it)) where
  pub cells_merge : (list : List SelectItem) → list_any is_median list ≡ false → map both list
      ≡ merged_line list (map one list) (map two list)
  cells_merge [] free = refl
  cells_merge (it ∷ list) free =
      ap (λ cell. cell ∷ map both list) (merge it (or_first (is_median it) (list_any is_median list) free))
      ∙ ap (λ line. merged it (one it) (two it) ∷ line) (cells_merge list (or_second (is_median it) (list_any is_median list) free))

pub lines_merge : LinesMerge
lines_merge headers list free rows more =
    cells_merge (said_of headers (rows ++ more)) (said_of headers rows) (said_of headers more)
    (λ it plain. items_merge headers it plain rows more) list free

the_line : (line other : List Cell) → line ∷ [] ≡ other ∷ [] → line ≡ other
the_line line other e = cc

pub answers_merge : AnswersMerge
answers_merge headers query rows more line other none some free first second =
    let list = shown_items headers query.items in
    let one = found_in headers query.condition rows in
    let two = found_in headers query.condition more in
    let says = λ (found : List Row). map (said_of headers found) list in
    let said = the_line (says one) line (sym (ungrouped headers rows query none ∙ lines_by headers list one true some) ∙ first) in
    let told = the_line (says two) other (sym (ungrouped headers more query none ∙ lines_by headers list two true some) ∙ second) in
    ungrouped headers (rows ++ more) query none
    ∙ ap (lines_for headers list None) (found_follow headers query.condition rows more)
    ∙ lines_by headers list (one ++ two) true some
    ∙ ap (λ whole. whole ∷ [])
    (lines_merge headers list free one two ∙ ap (λ l. merged_line list l (says two)) said ∙ ap (merged_line list line) told)
