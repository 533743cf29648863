-- Cells of rows that lie flat.
use Rattle.std.proofs.Common.{IsTrue, List, None, Option, Some, [], arith, ap, drop, get_or, length, length-drop, inl, inr, length-take, subst, sym, ℕ, ℤ, ◌%◌, ◌==◌, ◌*◌, ◌+◌, ◌/◌, ◌<◌, ◌≤◌, ◌∙◌, ◌≡◌, ◌++◌, ◌∷◌, All, mul-le-mul_right, div-mul-le_self}
use Rattle.std.proofs.lemmas.List.Elements.{All-push}
use Rattle.std.specs.List.{AllZip}
use Rattle.std.proofs.lemmas.Bool.{cases_Bool, eqb-true}
use Rattle.std.proofs.lemmas.Nat.{mod-mul-add}
use Rattle.std.proofs.lemmas.List.{get_or-drop, get_or-take, get_or_default, length-map}
use Rattle.bw_code.specs.Types.{IsNullOrOfType, IsRowOf, IsTyped, holds, holds_its_type, types_of}
use Rattle.bw_code.specs.declared.header.Header.{Header}
use Rattle.bw_code.specs.declared.kind.ColumnType.{ColumnType}
use Rattle.bw_code.specs.declared.kind.ColumnType.TheVariants.{Integer}
use Rattle.bw_code.proofs.Types.{zipped_by}
use Rattle.bw_column.specs.Values.{value_at}
use Rattle.bw_code.proofs.Lists.{made_at, made_len}
use Rattle.bw_table.specs.Changes.{type_at}
use Rattle.bw_table.specs.Rows.{AreWholeRows, row_from, rows_from}
use Rattle.bw_table.specs.Tables.{HoldTypes}
use Rattle.bw_table.specs.declared.choice.Choice.{Choice}
use Rattle.bw_table.proofs.Typed.{of_any}

pub are_whole : (width : ℕ) (cells : List (Option ℤ)) → 0 < width → length cells / width * width ≡ length cells → AreWholeRows width cells
are_whole width cells some whole = record { some = some; count = length cells / width; whole = sym whole }

pub are_wide : (width : ℕ) (cells : List (Option ℤ)) → All (λ row. length row ≡ width) (rows_from width cells)
are_wide width cells i d l =
    let inside : i < length cells / width = omega (arith, l, made_len (length cells / width) (row_from width cells)) in
    let is = made_at (length cells / width) (row_from width cells) i d inside in
    let more : (i + 1) * width ≤ length cells / width * width = mul-le-mul_right {m = i + 1} {n = length cells / width} width (omega (arith, inside)) in
    ap length is ∙ omega (arith, more, div-mul-le_self (length cells) width, length-take width (drop (i * width) cells), length-drop (i * width) cells)

pub are_integers : (width : ℕ) (cells : List (Option ℤ)) → All (IsNullOrOfType Integer) cells → All (λ row. All (IsNullOrOfType Integer) row) (rows_from width cells)
are_integers width cells all i d l j e m =
    let inside : i < length cells / width = omega (arith, l, made_len (length cells / width) (row_from width cells)) in
    let is = made_at (length cells / width) (row_from width cells) i d inside in
    let there : j < length (row_from width cells i) = omega (arith, m, ap length is) in
    let narrow : j < width = omega (arith, there, length-take width (drop (i * width) cells)) in
    let at : get_or (get_or (rows_from width cells) i d) j e ≡ get_or cells (i * width + j) e = ap (λ r. get_or r j e) is ∙ get_or-take width (drop (i * width) cells) j e narrow ∙ get_or-drop (i * width) cells j e in
    rw at (all (i * width + j) e (omega (arith, there, length-take width (drop (i * width) cells), length-drop (i * width) cells)))

pub one_more : (cells : List (Option ℤ)) (x : Option ℤ) → All (IsNullOrOfType Integer) cells → IsNullOrOfType Integer x → All (IsNullOrOfType Integer) (cells ++ x ∷ [])
one_more cells x all one = All-push (IsNullOrOfType Integer) cells x all one

-- ---- types

pub integer_taken : (types : List ColumnType) (k : ℕ) (value : Option ℤ) → IsNullOrOfType Integer value → IsNullOrOfType (type_at types k) value
integer_taken types k value of = of_any (type_at types k) value of

by_integers : (types : List ColumnType) (width : ℕ) (cells : List (Option ℤ)) → length types ≡ width → All (IsNullOrOfType Integer) cells → All (IsRowOf types) (rows_from width cells)
by_integers types width cells count all i d l =
    let row = get_or (rows_from width cells) i d in
    let wide : length row ≡ width = are_wide width cells i d l in
    zipped_by IsNullOrOfType types row (wide ∙ sym count) (λ k t e low. of_any (get_or types k t) (get_or row k e) (are_integers width cells all i d l k e (omega (arith, low, wide, count))))

by_checks : (types : List ColumnType) (width : ℕ) (cells : List (Option ℤ)) → length types ≡ width → ((i : ℕ) → i < length cells → IsNullOrOfType (type_at types (i % width)) (value_at cells i)) → All (IsRowOf types) (rows_from width cells)
by_checks types width cells count each i d l =
    let row = get_or (rows_from width cells) i d in
    let wide : length row ≡ width = are_wide width cells i d l in
    let inside : i < length cells / width = omega (arith, l, made_len (length cells / width) (row_from width cells)) in
    let is = made_at (length cells / width) (row_from width cells) i d inside in
    zipped_by IsNullOrOfType types row (wide ∙ sym count) (λ k t e low.
    let narrow : k < width = omega (arith, low, count) in
    let there : k < length (row_from width cells i) = omega (arith, narrow, wide, ap length is) in
    let n = i * width + k in
    let within : n < length cells = omega (arith, there, length-take width (drop (i * width) cells), length-drop (i * width) cells) in
    let at : get_or row k e ≡ value_at cells n = ap (λ r. get_or r k e) is ∙ get_or-take width (drop (i * width) cells) k e narrow ∙ get_or-drop (i * width) cells k e ∙ get_or_default cells n e None within in
    let type : type_at types (n % width) ≡ get_or types k t = ap (type_at types) (mod-mul-add i width k narrow) ∙ get_or_default types k Integer t low in
    rw at (subst (λ u. IsNullOrOfType u (value_at cells n)) type (each n within)))

module _ {N : Type 0} where
  pub types_count : (headers : List (Header N)) → length (types_of headers) ≡ length headers
  types_count headers = length-map headers (λ (header : Header N). header.column_type)

  pub integers_typed : (headers : List (Header N)) (width : ℕ) (cells : List (Option ℤ)) → width ≡ length headers → All (IsNullOrOfType Integer) cells → All (IsRowOf (types_of headers)) (rows_from width cells)
  integers_typed headers width cells count all = by_integers (types_of headers) width cells (types_count headers ∙ sym count) all

  pub checked_typed : (headers : List (Header N)) (width : ℕ) (cells : List (Option ℤ)) → width ≡ length headers → ((i : ℕ) → i < length cells → IsNullOrOfType (type_at (types_of headers) (i % length headers)) (value_at cells i)) → All (IsRowOf (types_of headers)) (rows_from width cells)
  checked_typed headers width cells count each = by_checks (types_of headers) width cells (types_count headers ∙ sym count) (λ i l. rw count (each i l))

  pub one_header_more : (headers : List (Header N)) (header : Header N) → All (λ h. IsTrue (holds_its_type h)) headers → IsTrue (holds_its_type header) → All (λ h. IsTrue (holds_its_type h)) (headers ++ header ∷ [])
  one_header_more headers header all one = All-push (λ h. IsTrue (holds_its_type h)) headers header all one

  -- columns of integers are of whichever types
  pub two_typed : (headers : List (Header N)) (first second : List (Option ℤ)) → length headers ≡ 2 → All (IsNullOrOfType Integer) first → All (IsNullOrOfType Integer) second → AllZip IsTyped headers (first ∷ second ∷ [])
  two_typed [] first second count a b = absurd (omega (arith, count))
  two_typed (h ∷ []) first second count a b = absurd (omega (arith, count))
  two_typed (h ∷ g ∷ []) first second count a b = (λ k d l. of_any h.column_type (get_or first k d) (a k d l), (λ k d l. of_any g.column_type (get_or second k d) (b k d l), tt))
  two_typed (h ∷ g ∷ f ∷ headers) first second count a b = absurd (omega (arith, count))

  pub none_chosen : (headers : List (Header N)) → All (λ h. IsTrue (holds_its_type h)) headers → HoldTypes [] headers
  none_chosen headers held k h l = held k h l

  pub one_chosen : (headers : List (Header N)) (column : ℕ) (choice : Choice) → All (λ h. IsTrue (holds_its_type h)) headers → ((h : Header N) → IsTrue (holds choice.layout (get_or headers column h).column_type)) → HoldTypes ((column, choice) ∷ []) headers
  one_chosen headers column choice held can k h l =
      elim (cases_Bool (column == k)) [
        | inl e ↦ let here : column ≡ k = eqb-true column k e in rw (e, ← here) (can h)
        | inr e ↦ rw e (held k h l)
      ]
