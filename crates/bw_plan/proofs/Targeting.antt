-- The types of the columns that the rows of an INSERT are for.
use Rattle.std.proofs.Common.{◌≡◌, ◌∙◌, ℕ, ◌<◌, Bool, true, false, ◌&&◌, List, [], ◌∷◌, drop, get_or, length, take, Option, None, Some, zero, suc, refl, sym, ap, arith}
use Rattle.std.specs.List.{All, list_all}
use Rattle.std.proofs.lemmas.List.{length-map}
use Rattle.std.proofs.lemmas.List.Elements.{All-head, All-tail}
use Rattle.bw_code.specs.Types.{are_of_types, is_null_or_of_type}
use Rattle.bw_code.specs.declared.kind.ColumnType.{ColumnType}
use Rattle.bw_code.specs.declared.kind.ColumnType.TheVariants.{Integer}
use Rattle.bw_sql.specs.Rows.{joined}
use Rattle.bw_model.specs.Answers.{AreWholeLines, lines_of}
use Rattle.bw_model.specs.Refusals.{types_named}
use Rattle.bw_model.specs.Store.{AreHeaders, Header, Row, names, place_of, type_at, type_named}
use Rattle.bw_model.proofs.Lines.{lines_of-first, lines_of-nil, whole_rest}
use Rattle.bw_model.proofs.OwnPlaces.{get_or-mapped}
use Rattle.bw_model.proofs.Typed.{own_type}
use Rattle.bw_plan.proofs.Tests.{list_all-joined}

-- of all columns in order, each has its own type
pub whole_type : (headers : List Header) (k : ℕ) (d : ColumnType) (h : Header) → AreHeaders headers → k < length headers → get_or (types_named headers (names headers)) k d ≡ (get_or headers k h).column_type
whole_type headers k d h valid low =
    get_or-mapped (type_named headers) (names headers) k [] d (omega (arith, low, length-map headers (λ (x : Header). x.name)))
    ∙ ap (type_named headers) (get_or-mapped (λ (x : Header). x.name) headers k h [] low)
    ∙ own_type headers k h valid.distinct low

-- a row by its values
pub row_passes : (types : List ColumnType) (row : Row) (d : ColumnType) → length row ≡ length types
    → ((k : ℕ) → k < length row → is_null_or_of_type (get_or types k d) (get_or row k None) ≡ true) → are_of_types types row ≡ true
row_passes [] row d same each = refl
row_passes (t ∷ types) [] d same each = refl
row_passes (t ∷ types) (value ∷ row) d same each =
    ap (λ b. b && are_of_types types row) (each zero (omega arith)) ∙ row_passes types row d (omega (arith, same)) (λ k low. each (suc k) (omega (arith, low)))

pub row_fails : (types : List ColumnType) (row : Row) (d : ColumnType) (k : ℕ) → length row ≡ length types → k < length row → is_null_or_of_type (get_or types k d) (get_or row k None) ≡ false → are_of_types types row ≡ false
row_fails [] row d k same low fails = absurd (omega (arith, same, low))
row_fails (t ∷ types) [] d k same low fails = absurd (omega (arith, low))
row_fails (t ∷ types) (value ∷ row) d zero same low fails = ap (λ b. b && are_of_types types row) fails
row_fails (t ∷ types) (value ∷ row) d (suc k) same low fails = later (is_null_or_of_type t value) (are_of_types types row) (row_fails types row d k (omega (arith, same)) (omega (arith, low)) fails)
  where
    later : (b c : Bool) → c ≡ false → (b && c) ≡ false
    later true c e = e
    later false c e = refl

-- where all columns are INTEGER, every value is to be one
integer_at : (headers : List Header) (k : ℕ) → All (λ header. header.column_type ≡ Integer) headers → type_at headers (Some k) ≡ Integer
integer_at [] k all = refl
integer_at (h ∷ headers) zero all = All-head (λ (x : Header). x.column_type ≡ Integer) h headers all
integer_at (h ∷ headers) (suc k) all = integer_at headers k (All-tail (λ (x : Header). x.column_type ≡ Integer) h headers all)

integer_named : (headers : List Header) (place : Option ℕ) → All (λ header. header.column_type ≡ Integer) headers → type_at headers place ≡ Integer
integer_named headers None all = refl
integer_named headers (Some k) all = integer_at headers k all

module _ (headers : List Header) (all : All (λ header. header.column_type ≡ Integer) headers) where
  row_of_integers : (list : List (List ℕ)) (row : Row) → length row ≡ length list → are_of_types (types_named headers list) row ≡ list_all (is_null_or_of_type Integer) row
  row_of_integers [] [] same = refl
  row_of_integers [] (value ∷ row) same = absurd (omega (arith, same))
  row_of_integers (name ∷ list) [] same = refl
  row_of_integers (name ∷ list) (value ∷ row) same =
      ap (λ t. is_null_or_of_type t value && are_of_types (types_named headers list) row) (integer_named headers (place_of headers name) all)
      ∙ ap (λ b. is_null_or_of_type Integer value && b) (row_of_integers list row (omega (arith, same)))

  rows_by_row : (list : List (List ℕ)) (rows : List Row) → All (λ row. length row ≡ length list) rows → list_all (are_of_types (types_named headers list)) rows ≡ list_all (list_all (is_null_or_of_type Integer)) rows
  rows_by_row list [] wide = refl
  rows_by_row list (row ∷ rows) wide =
      ap (λ b. b && list_all (are_of_types (types_named headers list)) rows) (row_of_integers list row (All-head (λ (r : Row). length r ≡ length list) row rows wide))
      ∙ ap (λ b. list_all (is_null_or_of_type Integer) row && b) (rows_by_row list rows (All-tail (λ (r : Row). length r ≡ length list) row rows wide))

  pub rows_of_integers : (list : List (List ℕ)) (rows : List Row) → All (λ row. length row ≡ length list) rows → list_all (are_of_types (types_named headers list)) rows ≡ list_all (is_null_or_of_type Integer) (joined rows)
  rows_of_integers list rows wide = rows_by_row list rows wide ∙ list_all-joined (is_null_or_of_type Integer) rows

-- a look at lines of one width, of which so many passed
module _ {A : Type 0} (p : List A → Bool) (w : ℕ) (all : List A) where
  pub record Looks (rest : List A) : Type 0 where
    pub whole : AreWholeLines w rest
    pub same : list_all p (lines_of w rest) ≡ list_all p (lines_of w all)

  pub look_starts : AreWholeLines w all → Looks all
  look_starts lines = record { whole = lines; same = refl }

  pub look_goes_on : (rest : List A) → Looks rest → 0 < length rest → p (take w rest) ≡ true → Looks (drop w rest)
  look_goes_on rest look some passes = record {
    whole = whole_rest w rest look.whole some;
    same = sym (ap (λ b. b && list_all p (lines_of w (drop w rest))) passes) ∙ sym (ap (list_all p) (lines_of-first w rest look.whole some)) ∙ look.same;
  }

  pub look_fails : (rest : List A) → Looks rest → 0 < length rest → p (take w rest) ≡ false → list_all p (lines_of w all) ≡ false
  look_fails rest look some fails =
      sym look.same ∙ ap (list_all p) (lines_of-first w rest look.whole some) ∙ ap (λ b. b && list_all p (lines_of w (drop w rest))) fails

  pub look_ends : (rest : List A) → Looks rest → length rest ≡ 0 → list_all p (lines_of w all) ≡ true
  look_ends [] look none = sym look.same ∙ ap (list_all p) (lines_of-nil w look.whole.some)
  look_ends (x ∷ rest) look none = absurd (omega (arith, none))
