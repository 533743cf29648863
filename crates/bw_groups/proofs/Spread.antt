-- Ranks of values that are not null, spread over all values.
use Rattle.std.proofs.Common.{All, List, None, Option, Some, [], ap, append_assoc, arith, cond, drop, false, get_or, is_some, length, map, refl, suc, sym, true, ℕ, ℤ, ◌++◌, ◌+◌, ◌<◌, ◌==◌, ◌≡◌, ◌≤◌, ◌∙◌, ◌∷◌}
use Rattle.std.specs.List.{list_any}
use Rattle.std.specs.Ordering.{int_eq}
use Rattle.std.specs.Prelude.{is_none}
use Rattle.std.proofs.lemmas.Bool.{true≢false}
use Rattle.std.proofs.lemmas.Bool.Decides.{nat_tests}
use Rattle.std.proofs.lemmas.List.{drop_more}
use Rattle.std.proofs.lemmas.List.Elements.{All-head, All-tail, All-cons, All-nil}
use Rattle.bw_aggregate.proofs.Counting.{count_cons}
use Rattle.bw_cells.specs.SetFunctions.{known}
use Rattle.bw_model.specs.Groups.{is_same}
use Rattle.bw_groups.specs.Grouping.{rows_in}
use Rattle.bw_groups.specs.Spreading.{ranks_over}

pub known_few : (values : List (Option ℤ)) → length (known values) ≤ length values
known_few [] = omega arith
known_few (None ∷ values) = omega (arith, known_few values)
known_few (Some x ∷ values) = omega (arith, known_few values)

-- where no value is null, the ranks are those of all values
pub all_known : (values : List (Option ℤ)) (ranks : List ℕ) (null : ℕ) → length ranks ≡ length values → length ranks ≡ length (known values) → ranks ≡ ranks_over values ranks null
all_known [] [] null a b = refl
all_known [] (rank ∷ ranks) null a b = absurd (omega (arith, a))
all_known (None ∷ values) ranks null a b = absurd (omega (arith, a, b, known_few values))
all_known (Some x ∷ values) [] null a b = absurd (omega (arith, a))
all_known (Some x ∷ values) (rank ∷ ranks) null a b = ap (λ rs. rank ∷ rs) (all_known values ranks null (omega (arith, a)) (omega (arith, b)))

-- one value further
known_drop : (values : List (Option ℤ)) (i : ℕ) → i < length values → length (known (drop i values)) ≡ length (known (get_or values i None ∷ drop (i + 1) values))
known_drop values i l = ap (λ vs. length (known vs)) (drop_more values i None l)

module _ (values : List (Option ℤ)) (ranks spread : List ℕ) (null i next : ℕ) (l : i < length values)
    (done : spread ++ ranks_over (drop i values) (drop next ranks) null ≡ ranks_over values ranks null)
    (left : next + length (known (drop i values)) ≡ length ranks) where
  some_at : is_some (get_or values i None) ≡ true → (x : ℤ) × (get_or values i None ≡ Some x)
  some_at there = by (get_or values i None) refl there
    where
      by : (value : Option ℤ) → get_or values i None ≡ value → is_some value ≡ true → (x : ℤ) × (get_or values i None ≡ Some x)
      by None e t = absurd (true≢false (sym t))
      by (Some x) e t = (x, e)

  none_at : is_some (get_or values i None) ≡ false → get_or values i None ≡ None
  none_at gone = by (get_or values i None) refl gone
    where
      by : (value : Option ℤ) → get_or values i None ≡ value → is_some value ≡ false → get_or values i None ≡ None
      by None e t = e
      by (Some x) e t = absurd (true≢false t)

  -- where a value is there, a rank is
  pub rank_there : is_some (get_or values i None) ≡ true → next < length ranks
  rank_there there =
      let at = some_at there in
      let one : length (known (drop i values)) ≡ suc (length (known (drop (i + 1) values))) = known_drop values i l ∙ ap (λ v. length (known (v ∷ drop (i + 1) values))) at.1 in
      omega (arith, one, left)

  pub more_known : is_some (get_or values i None) ≡ true → (rank : ℕ) → rank ≡ get_or ranks next 0
      → ((spread ++ rank ∷ []) ++ ranks_over (drop (i + 1) values) (drop (next + 1) ranks) null ≡ ranks_over values ranks null) × ((next + 1) + length (known (drop (i + 1) values)) ≡ length ranks)
  more_known there rank is =
      let at = some_at there in
      let vs : drop i values ≡ Some at.0 ∷ drop (i + 1) values = drop_more values i None l ∙ ap (λ v. v ∷ drop (i + 1) values) at.1 in
      let rs : drop next ranks ≡ rank ∷ drop (next + 1) ranks = drop_more ranks next 0 (rank_there there) ∙ ap (λ r. r ∷ drop (next + 1) ranks) (sym is) in
      let one : length (known (drop i values)) ≡ suc (length (known (drop (i + 1) values))) = known_drop values i l ∙ ap (λ v. length (known (v ∷ drop (i + 1) values))) at.1 in (
        append_assoc spread (rank ∷ []) (ranks_over (drop (i + 1) values) (drop (next + 1) ranks) null)
            ∙ ap (λ ys. spread ++ ys) (sym (ap (λ ys. ranks_over ys (drop next ranks) null) vs ∙ ap (λ ys. ranks_over (Some at.0 ∷ drop (i + 1) values) ys null) rs)) ∙ done,
        omega (arith, one, left),
      )

  pub more_null : is_some (get_or values i None) ≡ false
      → ((spread ++ null ∷ []) ++ ranks_over (drop (i + 1) values) (drop next ranks) null ≡ ranks_over values ranks null) × (next + length (known (drop (i + 1) values)) ≡ length ranks)
  more_null gone =
      let at = none_at gone in
      let vs : drop i values ≡ None ∷ drop (i + 1) values = drop_more values i None l ∙ ap (λ v. v ∷ drop (i + 1) values) at in
      let one : length (known (drop i values)) ≡ length (known (drop (i + 1) values)) = known_drop values i l ∙ ap (λ v. length (known (v ∷ drop (i + 1) values))) at in
      (append_assoc spread (null ∷ []) (ranks_over (drop (i + 1) values) (drop next ranks) null) ∙ ap (λ ys. spread ++ ys) (sym (ap (λ ys. ranks_over ys (drop next ranks) null) vs)) ∙ done, omega (arith, one, left))

-- whether a null is there, by how many values are not null
pub nulls_there : (values : List (Option ℤ)) → length (known values) < length values → list_any is_none values ≡ true
nulls_there [] h = absurd (omega (arith, h))
nulls_there (None ∷ values) h = refl
nulls_there (Some x ∷ values) h = nulls_there values (omega (arith, h))

pub no_nulls : (values : List (Option ℤ)) → length (known values) ≡ length values → list_any is_none values ≡ false
no_nulls [] h = refl
no_nulls (None ∷ values) h = absurd (omega (arith, h, known_few values))
no_nulls (Some x ∷ values) h = no_nulls values (omega (arith, h))

-- ranks below n, of which rank q stands for the integer at q, each for another
module _ (n : ℕ) (at : ℕ → ℤ) (apart : (q g : ℕ) → q < n → g < n → int_eq (at q) (at g) ≡ (q == g)) where
  pub same_known : (g : ℕ) → g < n → (values : List (Option ℤ)) (ranks : List ℕ) → All (λ r. r < n) ranks → map at ranks ≡ known values → map (λ r. r == g) (ranks_over values ranks n) ≡ map (λ value. is_same value (Some (at g))) values
  same_known g there [] ranks all is = refl
  same_known g there (None ∷ values) ranks all is =
      let test : (n == g) ≡ false = grind (arith, nat_tests, there) in
      rw (test, same_known g there values ranks all is) refl
  same_known g there (Some x ∷ values) [] all is = absurd (let e = ap length is in omega (arith, e))
  same_known g there (Some x ∷ values) (rank ∷ ranks) all is =
      let low : rank < n = All-head (λ r. r < n) rank ranks all in
      let test : (rank == g) ≡ int_eq x (at g) = sym (apart rank g low there) ∙ ap (λ y. int_eq y (at g)) (first is) in
      rw (test, same_known g there values ranks (All-tail (λ r. r < n) rank ranks all) (others is)) refl
    where
      first : at rank ∷ map at ranks ≡ x ∷ known values → at rank ≡ x
      first e = ap (λ ys. get_first ys) e
        where
          get_first : List ℤ → ℤ
          get_first [] = x
          get_first (y ∷ ys) = y

      others : at rank ∷ map at ranks ≡ x ∷ known values → map at ranks ≡ known values
      others e = ap (λ ys. after ys) e
        where
          after : List ℤ → List ℤ
          after [] = []
          after (y ∷ ys) = ys

  pub same_null : (values : List (Option ℤ)) (ranks : List ℕ) → All (λ r. r < n) ranks → length ranks ≡ length (known values) → map (λ r. r == n) (ranks_over values ranks n) ≡ map (λ value. is_same value None) values
  same_null [] ranks all is = refl
  same_null (None ∷ values) ranks all is = let test : (n == n) ≡ true = grind (arith, nat_tests) in rw (test, same_null values ranks all is) refl
  same_null (Some x ∷ values) [] all is = absurd (omega (arith, is))
  same_null (Some x ∷ values) (rank ∷ ranks) all is =
      let low : rank < n = All-head (λ r. r < n) rank ranks all in
      let test : (rank == n) ≡ false = grind (arith, nat_tests, low) in
      rw (test, same_null values ranks (All-tail (λ r. r < n) rank ranks all) (omega (arith, is))) refl

-- each spread rank is below m
pub spread_inside : (m null : ℕ) (values : List (Option ℤ)) (ranks : List ℕ) → null < m → All (λ r. r < m) ranks → All (λ r. r < m) (ranks_over values ranks null)
spread_inside m null [] ranks low all = All-nil (λ r. r < m)
spread_inside m null (None ∷ values) ranks low all = All-cons (λ r. r < m) null (ranks_over values ranks null) low (spread_inside m null values ranks low all)
spread_inside m null (Some x ∷ values) [] low all = All-nil (λ r. r < m)
spread_inside m null (Some x ∷ values) (rank ∷ ranks) low all = All-cons (λ r. r < m) rank (ranks_over values ranks null) (All-head (λ r. r < m) rank ranks all) (spread_inside m null values ranks low (All-tail (λ r. r < m) rank ranks all))

pub spread_length : (values : List (Option ℤ)) (ranks : List ℕ) (null : ℕ) → length ranks ≡ length (known values) → length (ranks_over values ranks null) ≡ length values
spread_length [] ranks null is = refl
spread_length (None ∷ values) ranks null is = ap suc (spread_length values ranks null is)
spread_length (Some x ∷ values) [] null is = absurd (omega (arith, is))
spread_length (Some x ∷ values) (rank ∷ ranks) null is = ap suc (spread_length values ranks null (omega (arith, is)))

-- how often a spread rank stands
pub rows_known : (null g : ℕ) → g < null → (values : List (Option ℤ)) (ranks : List ℕ) → length ranks ≡ length (known values) → rows_in (ranks_over values ranks null) g ≡ rows_in ranks g
rows_known null g low [] [] is = refl
rows_known null g low [] (rank ∷ ranks) is = absurd (omega (arith, is))
rows_known null g low (None ∷ values) ranks is =
    let test : (null == g) ≡ false = grind (arith, nat_tests, low) in
    let one = count_cons (λ r. r == g) null (ranks_over values ranks null) ∙ ap (λ b. cond b 1 0 + rows_in (ranks_over values ranks null) g) test in
    let rest = rows_known null g low values ranks is in
    omega (arith, one, rest)
rows_known null g low (Some x ∷ values) [] is = absurd (omega (arith, is))
rows_known null g low (Some x ∷ values) (rank ∷ ranks) is =
    count_cons (λ r. r == g) rank (ranks_over values ranks null) ∙ ap (λ k. cond (rank == g) 1 0 + k) (rows_known null g low values ranks (omega (arith, is))) ∙ sym (count_cons (λ r. r == g) rank ranks)

pub rows_null : (null : ℕ) (values : List (Option ℤ)) (ranks : List ℕ) → All (λ r. r < null) ranks → length ranks ≡ length (known values) → rows_in (ranks_over values ranks null) null + length (known values) ≡ length values
rows_null null [] ranks all is = refl
rows_null null (None ∷ values) ranks all is =
    let test : (null == null) ≡ true = grind (arith, nat_tests) in
    let one = count_cons (λ r. r == null) null (ranks_over values ranks null) ∙ ap (λ b. cond b 1 0 + rows_in (ranks_over values ranks null) null) test in
    let rest = rows_null null values ranks all is in
    omega (arith, one, rest)
rows_null null (Some x ∷ values) [] all is = absurd (omega (arith, is))
rows_null null (Some x ∷ values) (rank ∷ ranks) all is =
    let low : rank < null = All-head (λ r. r < null) rank ranks all in
    let test : (rank == null) ≡ false = grind (arith, nat_tests, low) in
    let one = count_cons (λ r. r == null) rank (ranks_over values ranks null) ∙ ap (λ b. cond b 1 0 + rows_in (ranks_over values ranks null) null) test in
    let rest = rows_null null values ranks (All-tail (λ r. r < null) rank ranks all) (omega (arith, is)) in
    omega (arith, one, rest)
