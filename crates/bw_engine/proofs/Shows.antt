-- What a SELECT shows, from the cells that lie flat.
use Rattle.std.proofs.Common.{◌≡◌, ℕ, ◌+◌, ◌<◌, ◌≤◌, List, [], ◌∷◌, ◌++◌, Option, None, Some, get_or, length, map, refl, subst, sym, take, ap, append-nil, ◌∙◌, arith}
use Rattle.std.specs.List.{All}
use Rattle.std.proofs.lemmas.List.Elements.{All-cons, All-nil}
use Rattle.std.proofs.lemmas.List.{get_or-map, length-map, map-append, take_all, take_more}
use Rattle.bw_sql.specs.Rows.{joined}
use Rattle.bw_sql.specs.Tree.{SelectTree}
use Rattle.bw_sql.specs.declared.tree.SelectItem.TheVariants as item
use Rattle.bw_code.specs.declared.kind.ColumnType.TheVariants.{Integer}
use Rattle.bw_code.specs.declared.kind.Layout.TheVariants.{V}
use Rattle.bw_code.specs.declared.kind.Kind.TheVariants.{Offset}
use Rattle.bw_model.specs.Answers.{AreWholeLines, Shown, lines_of}
use Rattle.bw_model.specs.Cells.{shown_all}
use Rattle.bw_model.specs.Condition.{found_rows}
use Rattle.bw_model.specs.Select.{answer, heading_of, lines_for, shown, shown_items}
use Rattle.bw_model.specs.Store.{Header, Row, Table, Value, names, place_of, value_at}
use Rattle.bw_model.specs.declared.answer.Cell.{Cell}
use Rattle.bw_model.specs.declared.answer.Heading.{Heading}
use Rattle.bw_model.specs.declared.answer.Heading.TheVariants.{Column}
use Rattle.bw_model.proofs.Lines.{All-map, length-joined, lines_of-joined, whole_lines}
use Rattle.bw_plan.proofs.SetLaws.{place_inside}

-- lines of one width that lie flat
module _ (lines : List (List Cell)) (cells : List Cell) (width : ℕ) (some : 0 < width) (wide : All (λ line. length line ≡ width) lines) (flat : cells ≡ joined lines) where
  pub whole_answer : AreWholeLines width cells
  whole_answer = whole_lines width (length lines) cells some (ap length flat ∙ length-joined width lines wide)

  pub lines_answer : lines_of width cells ≡ lines
  lines_answer = ap (lines_of width) flat ∙ lines_of-joined width lines some wide

pub place_lines_wide : (places : List ℕ) (rows : List Row) → All (λ line. length line ≡ length places) (map (λ row. map (λ place. shown (value_at row place)) places) rows)
place_lines_wide places rows = All-map (λ row. map (λ place. shown (value_at row place)) places) (length places) rows (λ row. length-map places (λ place. shown (value_at row place)))

pub one_line_flat : (cells : List Cell) → cells ≡ joined (cells ∷ [])
one_line_flat cells = sym (append-nil cells)

pub one_line_wide : (cells : List Cell) (width : ℕ) → length cells ≡ width → All (λ line. length line ≡ width) (cells ∷ [])
one_line_wide cells width e = All-cons (λ line. length line ≡ width) cells [] e (All-nil (λ line. length line ≡ width))

pub answer_is : (table : Table) (query : SelectTree) (shows : Shown)
    → shows.headings ≡ map heading_of (shown_items table.headers query.items) → shows.lines ≡ lines_for table.headers (shown_items table.headers query.items) query.grouping (found_rows table query.condition) → shows ≡ answer table query
answer_is table query shows headings lines = λ j. record { headings = headings j; lines = lines j }

-- columns are headed by their names
pub headings_all : (list : List (List ℕ)) → map (λ name. Column name) list ≡ map heading_of (map (λ name. item.Column name) list)
headings_all [] = refl
headings_all (name ∷ list) = ap (λ l. Column name ∷ l) (headings_all list)

-- the headings of all columns
module _ (headers : List Header) (i : ℕ) (headings : List Heading) where
  pub next_heading : (more : List Heading) (name : List ℕ) → i < length headers → headings ≡ take i (map (λ name. Column name) (names headers)) → ((d : Header) → name ≡ (get_or headers i d).name) → more ≡ headings ++ Column name ∷ []
      → more ≡ take (i + 1) (map (λ name. Column name) (names headers))
  next_heading more name within so_far is e =
      let inside : i < length (names headers) = omega (arith, within, length-map headers (λ h. h.name)) in
      let low : i < length (map (λ name. Column name) (names headers)) = omega (arith, inside, length-map (names headers) (λ name. Column name)) in
      e ∙ ap (λ l. l ++ Column name ∷ []) so_far
      ∙ ap (λ n. take i (map (λ name. Column name) (names headers)) ++ n ∷ []) (ap (λ n. Column n) (is some ∙ sym (get_or-map (λ (h : Header). h.name) headers i some [] within)) ∙ sym (get_or-map (λ name. Column name) (names headers) i [] (Column []) inside))
      ∙ sym (take_more (map (λ name. Column name) (names headers)) i (Column []) low)
    where
      some : Header
      some = record { name = []; column_type = Integer; layout = V; kind = Offset }

  pub all_headings_are : length headers ≤ i → headings ≡ take i (map (λ name. Column name) (names headers)) → headings ≡ map (λ name. Column name) (names headers)
  all_headings_are upto so_far = so_far ∙ take_all i (map (λ name. Column name) (names headers)) (omega (arith, upto, length-map (names headers) (λ name. Column name), length-map headers (λ h. h.name)))

-- the cells that show the values of lines, one after the other
shown_line : (row : Row) (places : List ℕ) → shown_all (map (λ place. value_at row place) places) ≡ map (λ place. shown (value_at row place)) places
shown_line row [] = refl
shown_line row (place ∷ places) = ap (λ l. shown (value_at row place) ∷ l) (shown_line row places)

shown_joined : (places : List ℕ) (rows : List Row) → shown_all (joined (map (λ row. map (λ place. value_at row place) places) rows)) ≡ joined (map (λ row. map (λ place. shown (value_at row place)) places) rows)
shown_joined places [] = refl
shown_joined places (row ∷ rows) =
    let line = map (λ place. value_at row place) places in
    let rest = joined (map (λ row. map (λ place. value_at row place) places) rows) in
    map-append shown line rest
    ∙ ap (λ l. l ++ shown_all rest) (shown_line row places)
    ∙ ap (λ l. map (λ place. shown (value_at row place)) places ++ l) (shown_joined places rows)

pub shown_values : (places : List ℕ) (rows : List Row) (values : List Value) → values ≡ joined (map (λ row. map (λ place. value_at row place) places) rows) → shown_all values ≡ joined (map (λ row. map (λ place. shown (value_at row place)) places) rows)
shown_values places rows values is = ap shown_all is ∙ shown_joined places rows

-- the places of columns are those of columns that are there
pub places_inside : (headers : List Header) {n : ℕ} → length headers ≡ n → (list : List (List ℕ)) (places : List ℕ) → map (λ place. Some place) places ≡ map (place_of headers) list → All (λ place. place < n) places
places_inside headers {n} count list [] e = All-nil (λ place. place < n)
places_inside headers {n} count [] (p ∷ places) e = absurd (omega (arith, ap length e))
places_inside headers {n} count (name ∷ list) (p ∷ places) e =
    let here : place_of headers name ≡ Some p = sym (ap (λ l. get_or l 0 None) e) in
    let within : p < n = omega (arith, place_inside headers name p here, count) in
    All-cons (λ place. place < n) p places within (places_inside headers count list places (ap rest_of e))
  where
    rest_of : List (Option ℕ) → List (Option ℕ)
    rest_of [] = []
    rest_of (x ∷ xs) = xs

-- values that lie flat, and the lines that show them
module _ (width : ℕ) (places : List ℕ) (rows : List Row) (values : List Value) (some : 0 < width) (wide : width ≡ length places) (flat : values ≡ joined (map (λ row. map (λ place. value_at row place) places) rows)) where
  abbrev shown_lines : List (List Cell)
  shown_lines = map (λ row. map (λ place. shown (value_at row place)) places) rows

  lines_wide : All (λ line. length line ≡ width) shown_lines
  lines_wide = subst (λ w. All (λ line. length line ≡ w) shown_lines) (sym wide) (place_lines_wide places rows)

  pub values_whole : AreWholeLines width (shown_all values)
  values_whole = whole_answer shown_lines (shown_all values) width some lines_wide (shown_values places rows values flat)

  pub values_lines : lines_of width (shown_all values) ≡ map (λ row. map (λ place. shown (value_at row place)) places) rows
  values_lines = lines_answer shown_lines (shown_all values) width some lines_wide (shown_values places rows values flat)
