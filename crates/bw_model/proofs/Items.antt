-- Select lists, and the lines that they show.
use Rattle.std.proofs.Common.{◌≡◌, ℕ, ◌+◌, ◌<◌, ◌++◌, Bool, true, false, List, [], ◌∷◌, Option, Some, None, get_or, length, map, refl, suc, ap, take, ◌∙◌, sym}
use Rattle.std.proofs.lemmas.List.{length-map, map-append, take_more}
use Rattle.std.proofs.lemmas.List.Elements.{filter_map-append}
use Rattle.std.specs.List.{All}
use Rattle.std.proofs.lemmas.List.Elements.{All-cons, All-nil}
use Rattle.bw_sql.specs.declared.tree.SelectItem.{SelectItem}
use Rattle.bw_sql.specs.declared.tree.SelectItem.TheVariants as item
use Rattle.bw_model.specs.Select.{columns_in, has_functions, item_column, line_of, lines_for, said_in, said_of, shown}
use Rattle.bw_model.specs.Groups.{groups_by}
use Rattle.bw_model.specs.Store.{Header, Row, place_of, value_from}
use Rattle.bw_model.proofs.Lines.{All-map}

-- each item of a list without functions names a column
pub columns_only : (list : List SelectItem) → has_functions list ≡ false → length (columns_in list) ≡ length list
columns_only [] e = refl
columns_only (item.Column name ∷ list) e = ap suc (columns_only list e)
columns_only (item.CountRows ∷ list) e = cc
columns_only (item.Function f name ∷ list) e = cc

-- one item more
pub columns_more : (list : List SelectItem) (i : ℕ) (x : SelectItem) → i < length list → x ≡ get_or list i x → columns_in (take i list) ++ columns_in (x ∷ []) ≡ columns_in (take (i + 1) list)
columns_more list i x within at =
    sym (ap columns_in (take_more list i x within ∙ ap (λ y. take i list ++ y ∷ []) (sym at)) ∙ filter_map-append item_column (take i list) (x ∷ []))

-- columns name themselves
pub columns_of_names : (names : List (List ℕ)) → columns_in (map (λ name. item.Column name) names) ≡ names
columns_of_names [] = refl
columns_of_names (name ∷ names) = ap (λ l. name ∷ l) (columns_of_names names)

module _ (headers : List Header) (list : List SelectItem) (rows : List Row) where
  one_line : (b : Bool) → has_functions list ≡ b → All (λ line. length line ≡ length list) (lines_for headers list None rows)
  one_line true e = rw e (All-cons (λ line. length line ≡ length list) (map (said_of headers rows) list) [] (length-map list (said_of headers rows)) (All-nil (λ line. length line ≡ length list)))
  one_line false e =
      rw e (All-map (line_of headers (columns_in list)) (length list) rows (λ row. length-map (columns_in list) (λ name. shown (value_from row (place_of headers name))) ∙ columns_only list e))

  -- each line has a cell for each item
  pub lines_wide : (grouping : Option (List ℕ)) → All (λ line. length line ≡ length list) (lines_for headers list grouping rows)
  lines_wide None = one_line (has_functions list) refl
  lines_wide (Some name) = All-map (λ group. map (said_in headers group) list) (length list) (groups_by (place_of headers name) rows) (λ group. length-map list (said_in headers group))

-- one row more
pub mapped_more : {A B C : Type 0} (f : B → C) (v : A → B) (rows : List A) (i : ℕ) (row : A) → i < length rows → row ≡ get_or rows i row
    → map f (map v (take i rows)) ++ f (v row) ∷ [] ≡ map f (map v (take (i + 1) rows))
mapped_more f v rows i row within at =
    sym (ap (λ l. map f (map v l)) (take_more rows i row within ∙ ap (λ r. take i rows ++ r ∷ []) (sym at))
    ∙ ap (map f) (map-append v (take i rows) (row ∷ []))
    ∙ map-append f (map v (take i rows)) (v row ∷ []))
