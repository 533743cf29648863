-- Lines of one width that lie flat.
use Rattle.std.proofs.Common.{◌≡◌, ℕ, ◌+◌, ◌*◌, ◌/◌, ◌<◌, ◌≤◌, List, [], ◌∷◌, ◌++◌, map, length, replicate, take, drop, zero, suc, refl, sym, ap, ◌∙◌, arith, append_assoc, append-nil, get_or, length-append, length-drop}
use Rattle.std.proofs.lemmas.List.{length-map, length-replicate, take_more}
use Rattle.std.proofs.Math.Nat.{mul-div_cancel}
use Rattle.std.specs.List.{All}
use Rattle.std.proofs.lemmas.List.Elements.{All-cons, All-head, All-nil, All-tail}
use Rattle.std.proofs.Math.Seq.{drop-append_seam, take-append_seam}
use Rattle.bw_sql.specs.Rows.{joined, rows_of}
use Rattle.bw_sql.proofs.RowLemmas.{length-rows_of}
use Rattle.bw_model.specs.Answers.{AreWholeLines, lines_of}

module _ {A : Type 0} where
  pub length-joined : (w : ℕ) (rows : List (List A)) → All (λ row. length row ≡ w) rows → length (joined rows) ≡ length rows * w
  length-joined w [] all = omega arith
  length-joined w (row ∷ rows) all =
      omega (arith, length-append row (joined rows), All-head (λ r. length r ≡ w) row rows all, length-joined w rows (All-tail (λ r. length r ≡ w) row rows all))

  pub length-lines_of : (w : ℕ) (cells : List A) → length (lines_of w cells) ≡ length cells / w
  length-lines_of w cells = length-rows_of (replicate (length cells / w) w) cells ∙ length-replicate (length cells / w) w

  pub count-of : (w n : ℕ) (cells : List A) → 0 < w → length cells ≡ n * w → length cells / w ≡ n
  count-of w n cells some e = ap (λ k. k / w) e ∙ mul-div_cancel n some

  pub count-lines_of : (w n : ℕ) (cells : List A) → 0 < w → length cells ≡ n * w → length (lines_of w cells) ≡ n
  count-lines_of w n cells some e = length-lines_of w cells ∙ count-of w n cells some e

  pub lines_of-nil : (w : ℕ) → 0 < w → lines_of {A = A} w [] ≡ []
  lines_of-nil w some = let none : 0 / w ≡ 0 = count-of w 0 [] some (omega arith) in ap (λ k. rows_of (replicate k w) []) none

  -- so many rows of a width are whole lines
  pub whole_lines : (w n : ℕ) (cells : List A) → 0 < w → length cells ≡ n * w → AreWholeLines w cells
  whole_lines w n cells some e = record { some = some; count = n; whole = e }

  rest_by : (w n : ℕ) (cells : List A) → 0 < w → length cells ≡ n * w → 0 < length cells → AreWholeLines w (drop w cells)
  rest_by w zero cells some e more = absurd (omega arith)
  rest_by w (suc n) cells some e more = record { some = some; count = n; whole = omega (arith, length-drop w cells) }

  -- what follows the first line
  pub whole_rest : (w : ℕ) (cells : List A) → AreWholeLines w cells → 0 < length cells → AreWholeLines w (drop w cells)
  whole_rest w cells lines more = rest_by w lines.count cells lines.some lines.whole more

  fits_by : (w n : ℕ) (cells : List A) → length cells ≡ n * w → 0 < length cells → w ≤ length cells
  fits_by w zero cells e more = absurd (omega arith)
  fits_by w (suc n) cells e more = omega arith

  pub line_fits : (w : ℕ) (cells : List A) → AreWholeLines w cells → 0 < length cells → w ≤ length cells
  line_fits w cells lines more = fits_by w lines.count cells lines.whole more

  pub lines_of-first : (w : ℕ) (cells : List A) → AreWholeLines w cells → 0 < length cells → lines_of w cells ≡ take w cells ∷ lines_of w (drop w cells)
  lines_of-first w cells lines more =
      let rest = whole_rest w cells lines more in
      let fits = line_fits w cells lines more in
      let whole : length cells ≡ suc rest.count * w = omega (arith, length-drop w cells, rest.whole, fits) in
      ap (λ k. rows_of (replicate k w) cells) (count-of w (suc rest.count) cells lines.some whole)
      ∙ ap (λ k. take w cells ∷ rows_of (replicate k w) (drop w cells)) (sym (count-of w rest.count (drop w cells) lines.some rest.whole))

-- lines of one width each are joined to whole lines
pub length-joined_map : {A B : Type 0} (f : A → List B) (w : ℕ) (rows : List A) → ((row : A) → length (f row) ≡ w) → length (joined (map f rows)) ≡ length rows * w
length-joined_map f w [] each = omega arith
length-joined_map f w (row ∷ rows) each = omega (arith, length-append (f row) (joined (map f rows)), each row, length-joined_map f w rows each)

-- lines that show so many places
pub shown_lines : {A B P : Type 0} (g : A → P → B) (places : List P) (rows : List A) (cells : List B) (w : ℕ) → 0 < length places → w ≡ length places → cells ≡ joined (map (λ row. map (g row) places) rows) → AreWholeLines w cells
shown_lines g places rows cells w some same e =
    record { some = omega arith; count = length rows; whole = ap length e ∙ length-joined_map (λ row. map (g row) places) w rows (λ row. length-map places (g row) ∙ sym same) }

-- joined lines are lines again
rows_of-joined : {A : Type 0} (w : ℕ) (rows : List (List A)) → All (λ row. length row ≡ w) rows → rows_of (replicate (length rows) w) (joined rows) ≡ rows
rows_of-joined w [] all = refl
rows_of-joined w (row ∷ rows) all =
    let same : length row ≡ w = All-head (λ r. length r ≡ w) row rows all in
    let rest = rows_of-joined w rows (All-tail (λ r. length r ≡ w) row rows all) in
    ap (λ k. take k (row ++ joined rows) ∷ rows_of (replicate (length rows) w) (drop k (row ++ joined rows))) (sym same)
    ∙ ap (λ l. l ∷ rows_of (replicate (length rows) w) (drop (length row) (row ++ joined rows))) (take-append_seam row (joined rows))
    ∙ ap (λ l. row ∷ rows_of (replicate (length rows) w) l) (drop-append_seam row (joined rows))
    ∙ ap (λ l. row ∷ l) rest

pub lines_of-joined : {A : Type 0} (w : ℕ) (rows : List (List A)) → 0 < w → All (λ row. length row ≡ w) rows → lines_of w (joined rows) ≡ rows
lines_of-joined w rows some all = ap (λ k. rows_of (replicate k w) (joined rows)) (count-of w (length rows) (joined rows) some (length-joined w rows all)) ∙ rows_of-joined w rows all

pub All-map : {A B : Type 0} (f : A → List B) (w : ℕ) (rows : List A) → ((row : A) → length (f row) ≡ w) → All (λ row. length row ≡ w) (map f rows)
All-map f w [] each = All-nil (λ row. length row ≡ w)
All-map f w (row ∷ rows) each = All-cons (λ r. length r ≡ w) (f row) (map f rows) (each row) (All-map f w rows each)

-- one line more
module _ {A C : Type 0} (f : A → List C) where
  pushed : (rows : List A) (row : A) → joined (map f (rows ++ row ∷ [])) ≡ joined (map f rows) ++ f row
  pushed [] row = append-nil (f row)
  pushed (first ∷ rows) row = ap (λ l. f first ++ l) (pushed rows row) ∙ sym (append_assoc (f first) (joined (map f rows)) (f row))

  pub joined_next : (rows : List A) (i : ℕ) (row : A) → i < length rows → row ≡ get_or rows i row → joined (map f (take (i + 1) rows)) ≡ joined (map f (take i rows)) ++ f row
  joined_next rows i row within at =
      ap (λ l. joined (map f l)) (take_more rows i row within ∙ ap (λ r. take i rows ++ r ∷ []) (sym at)) ∙ pushed (take i rows) row

-- one line more, of what is seen of a row
module _ {A B C : Type 0} (f : B → List C) (v : A → B) where
  joined-push : (rows : List A) (row : A) → joined (map f (map v (rows ++ row ∷ []))) ≡ joined (map f (map v rows)) ++ f (v row)
  joined-push [] row = append-nil (f (v row))
  joined-push (first ∷ rows) row = ap (λ l. f (v first) ++ l) (joined-push rows row) ∙ sym (append_assoc (f (v first)) (joined (map f (map v rows))) (f (v row)))

  pub joined_more : (rows : List A) (i : ℕ) (row : A) → i < length rows → row ≡ get_or rows i row → joined (map f (map v (take (i + 1) rows))) ≡ joined (map f (map v (take i rows))) ++ f (v row)
  joined_more rows i row within at =
      ap (λ l. joined (map f (map v l))) (take_more rows i row within ∙ ap (λ r. take i rows ++ r ∷ []) (sym at)) ∙ joined-push (take i rows) row

-- the cells are as many as the lines have places
pub cells_count : {A : Type 0} (w : ℕ) (cells : List A) → AreWholeLines w cells → length cells ≡ length (lines_of w cells) * w
cells_count w cells are = are.whole ∙ ap (λ n. n * w) (sym (count-lines_of w are.count cells are.some are.whole))
