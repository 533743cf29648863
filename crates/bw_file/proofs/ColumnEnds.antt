-- The least and the greatest of the cells of a column that lies in its bits and words.
use Rattle.std.proofs.Common.{Bool, List, None, Option, Some, [], ap, arith, cond, drop, false, fold, get_or, inl, inr, length, nat_eq, negsuc, pos, refl, slice_index, subst, sym, take, true, unwrap_or, ℕ, ℤ, ◌%◌, ◌*◌, ◌+◌, ◌/◌, ◌<◌, ◌<ℤ◌, ◌==◌, ◌∷◌, ◌≡◌, ◌≤ℤ◌, ◌∙◌, ◌||◌}
use Rattle.std.specs.Int.{bit_at, cast_signed, int_max, int_min, w32}
use Rattle.std.specs.List.{All}
use Rattle.std.proofs.Math.ListN.{get_or-eq_default}
use Rattle.std.proofs.lemmas.Bool.{cases_lt}
use Rattle.std.proofs.lemmas.Bool.Decides.{nat_tests}
use Rattle.std.proofs.lemmas.Int.{fold-int_max_bounds, fold-int_min_bounds, ints}
use Rattle.byteorder.specs.Endian.{little_number}
use Rattle.bw_code.specs.Encodings.{IsGreatest, IsLeast}
use Rattle.bw_code.specs.Fittings.{AreEnds}
use Rattle.bw_code.specs.declared.ends.Ends.{Ends}
use Rattle.std.specs.Option.{IfSome}
use Rattle.bw_cells.specs.Known.{known}
use Rattle.bw_cells.proofs.Known.{all_known, known_more}
use Rattle.bw_cells.proofs.KnownEnds.{greatest_is, greatest_more, least_is, least_more}
use Rattle.bw_file.specs.Cells.{IsCell}
use Rattle.bw_file.specs.Reading.{cells_in}
use Rattle.bw_file.proofs.Lent.{cell_in, length-cells_in}

-- what stands for a null
abbrev pub top : ℤ
top = pos 2147483647

abbrev pub bottom : ℤ
bottom = negsuc 2147483647

-- one row more
module _ (rows i : ℕ) (present words : List ℕ) (there : Bool) (word : ℤ) (inside : i < rows) (has : there ≡ (bit_at (slice_index present (i / 8)) (i % 8) == 1)) (is : word ≡ cast_signed w32 (little_number 4 (drop (4 * i) words))) where
  abbrev cells : List (Option ℤ)
  cells = cells_in rows present words

  cell : cond there (Some word) None ≡ get_or cells i None
  cell = ap (λ b. cond b (Some word) None) has ∙ ap (λ z. cond (bit_at (slice_index present (i / 8)) (i % 8) == 1) (Some z) None) is ∙ sym (cell_in rows present words i inside)

  pub least_at : (least result : ℤ) → least ≡ fold int_min top (known (take i cells)) → result ≡ int_min least (unwrap_or (cond there (Some word) None) top) → result ≡ fold int_min top (known (take (i + 1) cells))
  least_at least result before now =
      least_more top (known (take i cells)) (get_or cells i None) least result before (now ∙ ap (λ c. int_min least (unwrap_or c top)) cell)
      ∙ ap (fold int_min top) (sym (known_more cells i (omega (arith, inside, length-cells_in rows present words))))

  pub greatest_at : (greatest result : ℤ) → greatest ≡ fold int_max bottom (known (take i cells)) → result ≡ int_max greatest (unwrap_or (cond there (Some word) None) bottom) → result ≡ fold int_max bottom (known (take (i + 1) cells))
  greatest_at greatest result before now =
      greatest_more bottom (known (take i cells)) (get_or cells i None) greatest result before (now ∙ ap (λ c. int_max greatest (unwrap_or c bottom)) cell)
      ∙ ap (fold int_max bottom) (sym (known_more cells i (omega (arith, inside, length-cells_in rows present words))))

-- the word of a null that is spelled
pub zero_at_null : (there zero : Bool) (n : ℕ) (word : ℤ) → (there || zero) ≡ true → zero ≡ nat_eq n 0 → word ≡ cast_signed w32 n → there ≡ false → word ≡ pos 0
zero_at_null true zero n word h none is gone = cc
zero_at_null false zero n word h none is gone =
    let e : n ≡ 0 = grind (arith, nat_tests) in
    is ∙ ap (cast_signed w32) e

-- what is known of cells is between the two that stand for nulls
abbrev pub IsBetween : ℤ → Type 0
IsBetween x = (bottom ≤ℤ x) × (x ≤ℤ top)

pub are_between : (xs : List (Option ℤ)) → All IsCell xs → All IsBetween (known xs)
are_between xs all = all_known IsBetween xs (λ i x is. let fits : IsCell (Some x) = subst IsCell is (by_place i) in (omega (arith, ints, fits), omega (arith, ints, fits)))
  where
    by_place : (i : ℕ) → IsCell (get_or xs i None)
    by_place i =
        elim (cases_lt i (length xs)) [
          | inl there ↦ all i None there
          | inr past ↦ subst IsCell (sym (get_or-eq_default xs None past)) tt
        ]

-- ends of which the one is not above the other are those of some integers
pub some_ends : (xs : List ℤ) (least greatest : ℤ) → All IsBetween xs → least ≡ fold int_min top xs → greatest ≡ fold int_max bottom xs → least ≤ℤ greatest → IsLeast xs least × IsGreatest xs greatest
some_ends [] least greatest all low high h = absurd (omega (arith, ints, low, high, h))
some_ends (x ∷ xs) least greatest all low high h = (
  least_is top (x ∷ xs) least (omega arith) (λ k d l. (all k d l).1) low,
  greatest_is bottom (x ∷ xs) greatest (omega arith) (λ k d l. (all k d l).0) high,
)

pub no_ends : (xs : List ℤ) (least greatest : ℤ) → least ≡ fold int_min top xs → greatest ≡ fold int_max bottom xs → greatest <ℤ least → xs ≡ []
no_ends [] least greatest low high h = refl
no_ends (x ∷ xs) least greatest low high h =
    let a : least ≤ℤ x = (fold-int_min_bounds top (x ∷ xs) least low).1 0 (pos 0) (omega arith) in
    let b : x ≤ℤ greatest = (fold-int_max_bounds bottom (x ∷ xs) greatest high).1 0 (pos 0) (omega arith) in
    absurd (omega (arith, ints, a, b, h))

-- what the two come to
pub ends_are : (xs : List ℤ) (least greatest : ℤ) (result : Option Ends) → All IsBetween xs → least ≡ fold int_min top xs → greatest ≡ fold int_max bottom xs
    → IfSome result (λ ends. (ends.least ≡ least) × (ends.greatest ≡ greatest) × (least ≤ℤ greatest)) → (result ≡ None → greatest <ℤ least) → AreEnds xs result
ends_are xs least greatest None all low high some none = no_ends xs least greatest low high (none refl)
ends_are xs least greatest (Some ends) all low high some none =
    let are = some_ends xs least greatest all low high some.2 in
    (subst (IsLeast xs) (sym some.0) are.0, subst (IsGreatest xs) (sym some.1) are.1)
