-- Columns by their places.
use Rattle.std.proofs.Common.{◌≡◌, ℕ, ◌+◌, ◌<◌, ◌≤◌, true, false, ◌||◌, not, List, [], ◌∷◌, ◌++◌, length, map, take, get_or, position, Option, None, Some, is_some, refl, sym, ap, ◌∙◌, arith, append_assoc, length-append}
use Rattle.std.specs.List.{All, list_any}
use Rattle.std.specs.Str.{bytes_eq}
use Rattle.std.proofs.lemmas.List.{length-map, take_all, take_more}
use Rattle.std.proofs.lemmas.List.Elements.{All-head, All-tail}
use Rattle.std.proofs.lemmas.Simd.{map-map}
use Rattle.bw_model.specs.Insert.{row_for}
use Rattle.bw_model.specs.Refusals.{first_that_holds, is_missing}
use Rattle.bw_model.specs.Select.{columns_in, line_of, shown}
use Rattle.bw_sql.specs.declared.tree.SelectItem.TheVariants.{Column}
use Rattle.bw_model.proofs.Items.{columns_of_names}
use Rattle.bw_model.specs.Store.{AreHeaders, Header, Row, Value, are_distinct, names, place_of, value_at, value_from}
use Rattle.bw_plan.specs.Checks.{listed_tests, value_tests}
use Rattle.bw_model.proofs.Names.{map-push}
use Rattle.bw_model.proofs.OwnPlaces.{at_behind, get_or-mapped, place_at, place_of-names}
use Rattle.bw_plan.proofs.Tests.{first-append_none, no_test}

value_behind : (front : Row) (v : Value) (rest : Row) → value_at (front ++ v ∷ rest) (length front) ≡ v
value_behind [] v rest = refl
value_behind (u ∷ front) v rest = value_behind front v rest

values_behind : (front rest : List (List ℕ)) (vfront vrest : Row) → are_distinct (front ++ rest) ≡ true → length vfront ≡ length front → length vrest ≡ length rest
    → map (λ n. value_from (vfront ++ vrest) (position (bytes_eq n) (front ++ rest))) rest ≡ vrest
values_behind front [] vfront [] distinct same_front same_rest = refl
values_behind front [] vfront (v ∷ vrest) distinct same_front same_rest = absurd (omega arith)
values_behind front (x ∷ rest) vfront [] distinct same_front same_rest = absurd (omega arith)
values_behind front (x ∷ rest) vfront (v ∷ vrest) distinct same_front same_rest =
    let moved : (front ++ x ∷ []) ++ rest ≡ front ++ x ∷ rest = append_assoc front (x ∷ []) rest in
    let vmoved : (vfront ++ v ∷ []) ++ vrest ≡ vfront ++ v ∷ vrest = append_assoc vfront (v ∷ []) vrest in
    ap (λ o. value_from (vfront ++ v ∷ vrest) o ∷ map (λ n. value_from (vfront ++ v ∷ vrest) (position (bytes_eq n) (front ++ x ∷ rest))) rest) (at_behind front x rest distinct)
    ∙ ap (λ m. value_at (vfront ++ v ∷ vrest) m ∷ map (λ n. value_from (vfront ++ v ∷ vrest) (position (bytes_eq n) (front ++ x ∷ rest))) rest) (sym same_front)
    ∙ ap (λ u. u ∷ map (λ n. value_from (vfront ++ v ∷ vrest) (position (bytes_eq n) (front ++ x ∷ rest))) rest) (value_behind vfront v vrest)
    ∙ ap (λ l. v ∷ map (λ n. value_from (vfront ++ v ∷ vrest) (position (bytes_eq n) l)) rest) (sym moved)
    ∙ ap (λ l. v ∷ map (λ n. value_from l (position (bytes_eq n) ((front ++ x ∷ []) ++ rest))) rest) (sym vmoved)
    ∙ ap (λ l. v ∷ l) (values_behind (front ++ x ∷ []) rest (vfront ++ v ∷ []) vrest (ap are_distinct moved ∙ distinct) (omega (arith, length-append front (x ∷ []), length-append vfront (v ∷ []))) (omega arith))

found_behind : (front rest : List (List ℕ)) → are_distinct (front ++ rest) ≡ true → list_any (λ n. not (is_some (position (bytes_eq n) (front ++ rest)))) rest ≡ false
found_behind front [] distinct = refl
found_behind front (x ∷ rest) distinct =
    let moved : (front ++ x ∷ []) ++ rest ≡ front ++ x ∷ rest = append_assoc front (x ∷ []) rest in
    ap (λ o. not (is_some o) || list_any (λ n. not (is_some (position (bytes_eq n) (front ++ x ∷ rest)))) rest) (at_behind front x rest distinct)
    ∙ ap (λ l. list_any (λ n. not (is_some (position (bytes_eq n) l))) rest) (sym moved)
    ∙ found_behind (front ++ x ∷ []) rest (ap are_distinct moved ∙ distinct)

-- the row of values for all columns in order is these values
pub row_for-all : (headers : List Header) (row : Row) → AreHeaders headers → length row ≡ length headers → row_for headers (names headers) row ≡ row
row_for-all headers row valid same =
    sym (map-map (λ n. value_from row (position (bytes_eq n) (names headers))) (λ h. h.name) headers)
    ∙ values_behind [] (names headers) [] row valid.distinct refl (same ∙ sym (length-map headers (λ h. h.name)))

pub rows_for-all : (headers : List Header) (rows : List Row) → AreHeaders headers → All (λ row. length row ≡ length headers) rows → map (row_for headers (names headers)) rows ≡ rows
rows_for-all headers [] valid all = refl
rows_for-all headers (row ∷ rows) valid all =
    ap (λ r. r ∷ map (row_for headers (names headers)) rows) (row_for-all headers row valid (All-head (λ r. length r ≡ length headers) row rows all))
    ∙ ap (λ l. row ∷ l) (rows_for-all headers rows valid (All-tail (λ r. length r ≡ length headers) row rows all))

pub none_missing : (headers : List Header) → AreHeaders headers → list_any (is_missing headers) (names headers) ≡ false
none_missing headers valid =
    (λ j. list_any (λ n. not (is_some (place_of-names headers n j))) (names headers)) ∙ found_behind [] (names headers) valid.distinct

pub some_names : (headers : List Header) → AreHeaders headers → 0 < length (names headers)
some_names headers valid = omega (arith, length-map headers (λ h. h.name), valid.some)

-- all columns in order, as items
pub none_missing_item : (headers : List Header) → AreHeaders headers → list_any (is_missing headers) (columns_in (map (λ name. Column name) (names headers))) ≡ false
none_missing_item headers valid = ap (list_any (is_missing headers)) (columns_of_names (names headers)) ∙ none_missing headers valid

pub some_items : (headers : List Header) → AreHeaders headers → 0 < length (map (λ name. Column name) (names headers))
some_items headers valid = omega (arith, length-map (names headers) (λ name. Column name), some_names headers valid)

-- all columns in order pass the tests on a list
pub all_listed : (headers : List Header) → AreHeaders headers → first_that_holds (listed_tests headers (names headers)) ≡ None
all_listed headers valid = no_test _ _ _ (none_missing headers valid) ∙ no_test _ _ _ (ap not valid.distinct)

-- the tests of rows that name all columns in order
pub whole_first : (headers : List Header) (room : ℕ) (rows : List Row) → AreHeaders headers → first_that_holds (listed_tests headers (names headers) ++ value_tests headers (names headers) room rows) ≡ first_that_holds (value_tests headers (names headers) room rows)
whole_first headers room rows valid = first-append_none (listed_tests headers (names headers)) (value_tests headers (names headers) room rows) (all_listed headers valid)

-- the places so far, and the next
pub next_place : (headers : List Header) (places : List ℕ) (i : ℕ) → AreHeaders headers → i < length headers → map (λ place. Some place) places ≡ take i (map (place_of headers) (names headers)) → map (λ place. Some place) (places ++ i ∷ []) ≡ take (i + 1) (map (place_of headers) (names headers))
next_place headers places i valid within so_far =
    let list = names headers in
    let inside : i < length list = omega (arith, length-map headers (λ h. h.name)) in
    let room : i < length (map (place_of headers) list) = omega (arith, length-map list (place_of headers)) in
    map-push (λ place. Some place) places i
    ∙ ap (λ l. l ++ Some i ∷ []) so_far
    ∙ ap (λ o. take i (map (place_of headers) list) ++ o ∷ []) (sym (get_or-mapped (place_of headers) list i [] None inside ∙ place_of-names headers (get_or list i []) ∙ place_at list i [] valid.distinct inside))
    ∙ sym (take_more (map (place_of headers) list) i None room)

-- a line by places is the line by names
pub line_by_places : (headers : List Header) (list : List (List ℕ)) (places : List ℕ) (row : Row) → map (λ place. Some place) places ≡ map (place_of headers) list → map (λ place. shown (value_at row place)) places ≡ line_of headers list row
line_by_places headers list places row same =
    sym (map-map (λ o. shown (value_from row o)) (λ place. Some place) places)
    ∙ ap (map (λ o. shown (value_from row o))) same
    ∙ map-map (λ o. shown (value_from row o)) (place_of headers) list

pub row_by_sources : (headers : List Header) (list : List (List ℕ)) (sources : List (Option ℕ)) (row : Row) → sources ≡ map (λ h. position (bytes_eq h.name) list) headers → map (value_from row) sources ≡ row_for headers list row
row_by_sources headers list sources row same = ap (map (value_from row)) same ∙ map-map (value_from row) (λ h. position (bytes_eq h.name) list) headers

-- the places when all have come
pub all_places_are : (headers : List Header) (places : List ℕ) (i : ℕ) → i ≤ length headers → length headers ≤ i → map (λ place. Some place) places ≡ take i (map (place_of headers) (names headers)) → map (λ place. Some place) places ≡ map (place_of headers) (names headers)
all_places_are headers places i low high so_far =
    so_far ∙ take_all i (map (place_of headers) (names headers)) (omega (arith, length-map (names headers) (place_of headers), length-map headers (λ h. h.name)))
