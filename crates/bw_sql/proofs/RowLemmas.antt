-- Rows that lie flat.
use Rattle.std.proofs.Common.{◌≡◌, ℕ, ◌+◌, ◌≤◌, List, [], ◌∷◌, ◌++◌, length, map, sum, take, drop, suc, refl, sym, ap, ◌∙◌, arith, length-drop, length-take, take-append-drop, add-zero}
use Rattle.std.proofs.lemmas.List.{drop-append-le, take_all, take-append-le}
use Rattle.std.proofs.lemmas.List.Sums.{sum_by-append, sum_by-cons}
use Rattle.std.specs.List.{All}
use Rattle.std.proofs.lemmas.List.Elements.{All-cons, All-head, All-tail, All-nil}
use Rattle.bw_sql.specs.Rows.{joined, rows_of}

sum-cons : (w : ℕ) (widths : List ℕ) → sum (w ∷ widths) ≡ w + sum widths
sum-cons w widths = sum_by-cons (λ n. n) w widths

-- a sum that starts at the first row's width
rest_fits : {A : Type 0} (w : ℕ) (widths : List ℕ) (values : List A) → sum (w ∷ widths) ≡ length values → sum widths ≡ length (drop w values)
rest_fits w widths values e = omega (arith, sum-cons w widths, length-drop w values)

first_fits : {A : Type 0} (w : ℕ) (widths : List ℕ) (values : List A) → sum (w ∷ widths) ≡ length values → length (take w values) ≡ w
first_fits w widths values e = omega (arith, sum-cons w widths, length-take w values)

module _ {A : Type 0} where
  pub length-rows_of : (widths : List ℕ) (values : List A) → length (rows_of widths values) ≡ length widths
  length-rows_of [] values = refl
  length-rows_of (w ∷ widths) values = ap (λ n. suc n) (length-rows_of widths (drop w values))

  pub joined-rows_of : (widths : List ℕ) (values : List A) → sum widths ≡ length values → joined (rows_of widths values) ≡ values
  joined-rows_of [] [] e = refl
  joined-rows_of [] (v ∷ values) e = absurd (omega arith)
  joined-rows_of (w ∷ widths) values e =
      ap (λ l. take w values ++ l) (joined-rows_of widths (drop w values) (rest_fits w widths values e)) ∙ take-append-drop w values

  -- the rows have these widths
  pub widths-rows_of : (widths : List ℕ) (values : List A) → sum widths ≡ length values → map length (rows_of widths values) ≡ widths
  widths-rows_of [] values e = refl
  widths-rows_of (w ∷ widths) values e =
      ap (λ n. n ∷ map length (rows_of widths (drop w values))) (first_fits w widths values e) ∙ ap (λ l. w ∷ l) (widths-rows_of widths (drop w values) (rest_fits w widths values e))

  -- each row is as long as its width
  pub rows_as_wide : (n : ℕ) (widths : List ℕ) (values : List A) → sum widths ≡ length values → All (λ w. w ≡ n) widths → All (λ row. length row ≡ n) (rows_of widths values)
  rows_as_wide n [] values e all = All-nil (λ row. length row ≡ n)
  rows_as_wide n (w ∷ widths) values e all =
      All-cons (λ row. length row ≡ n) (take w values) (rows_of widths (drop w values)) (first_fits w widths values e ∙ All-head (λ w. w ≡ n) w widths all) (rows_as_wide n widths (drop w values) (rest_fits w widths values e) (All-tail (λ w. w ≡ n) w widths all))

  pub widths_as_rows : (n : ℕ) (widths : List ℕ) (values : List A) → sum widths ≡ length values → All (λ row. length row ≡ n) (rows_of widths values) → All (λ w. w ≡ n) widths
  widths_as_rows n [] values e all = All-nil (λ w. w ≡ n)
  widths_as_rows n (w ∷ widths) values e all =
      All-cons (λ w. w ≡ n) w widths (sym (first_fits w widths values e) ∙ All-head (λ row. length row ≡ n) (take w values) (rows_of widths (drop w values)) all) (widths_as_rows n widths (drop w values) (rest_fits w widths values e) (All-tail (λ row. length row ≡ n) (take w values) (rows_of widths (drop w values)) all))

pub sum-push : (widths : List ℕ) (w : ℕ) → sum (widths ++ w ∷ []) ≡ sum widths + w
sum-push widths w = sum_by-append (λ n. n) widths (w ∷ []) ∙ ap (λ n. sum widths + n) (sum-cons w [] ∙ add-zero w)

take_front : {A : Type 0} (xs ys : List A) (n : ℕ) → n ≡ length xs → take n (xs ++ ys) ≡ xs
take_front xs ys n e = rw e (take-append-le (length xs) xs ys (omega arith) ∙ take_all (length xs) xs (omega arith))

-- one more row at the end
pub rows_of-push : {A : Type 0} (widths : List ℕ) (values row : List A) (width : ℕ) → sum widths ≡ length values → width ≡ length row → rows_of (widths ++ width ∷ []) (values ++ row) ≡ rows_of widths values ++ row ∷ []
rows_of-push [] [] row width e wide = ap (λ l. l ∷ []) (take_all width row (omega arith))
rows_of-push [] (v ∷ values) row width e wide = absurd (omega arith)
rows_of-push (w ∷ widths) values row width e wide =
    let fits : w ≤ length values = omega (arith, sum-cons w widths) in
    rw (take-append-le w values row fits, drop-append-le w values row fits)
    (ap (λ l. take w values ∷ l) (rows_of-push widths (drop w values) row width (rest_fits w widths values e) wide))
