-- Ranks of numbers that stand for integers in their order make the groups of these integers.
use Rattle.std.proofs.Common.{Bool, List, [], ap, arith, false, get_or, inl, inr, length, map, refl, suc, sym, true, zero, ℕ, ℤ, ◌+◌, ◌<◌, ◌<ℤ◌, ◌==◌, ◌||◌, ◌≡◌, ◌∙◌, ◌∷◌}
use Rattle.std.specs.List.{dedup}
use Rattle.std.specs.Ordering.{int_eq}
use Rattle.std.specs.List.Sorted.{IsStrictlyIncreasing}
use Rattle.std.proofs.lemmas.Bool.{cases_eq, cases_lt, true≢false}
use Rattle.std.proofs.lemmas.Bool.Decides.{nat_tests}
use Rattle.std.proofs.lemmas.Grind.{get_or_default_zero}
use Rattle.std.proofs.lemmas.Int.{ints}
use Rattle.std.proofs.lemmas.List.{get_or-map, length-map}
use Rattle.std.proofs.lemmas.List.Kept.{AllPairs-from_increasing}
use Rattle.bw_cells.specs.SetFunctions.{sorted}
use Rattle.bw_rank.specs.Ranks.{AreRanks}
use Rattle.bw_groups.proofs.Distinct.{Rises, RisesFrom, distinct-is, has}

-- greater numbers stand for greater integers
abbrev pub Climbs : (ℕ → ℤ) → Type 0
Climbs f = (m n : ℕ) → m < n → f m <ℤ f n

later : (a b : Bool) → b ≡ true → (a || b) ≡ true
later true b g = refl
later false b g = g

pub has_at : (xs : List ℤ) (k : ℕ) (z d : ℤ) → k < length xs → get_or xs k d ≡ z → has xs z ≡ true
has_at [] k z d h is = absurd (omega (arith, h))
has_at (x ∷ xs) zero z d h is = let test : int_eq z x ≡ true = grind (arith, ints, is) in ap (λ b. b || has xs z) test
has_at (x ∷ xs) (suc k) z d h is = later (int_eq z x) (has xs z) (has_at xs k z d (omega (arith, h)) is)

pub at_has : (xs : List ℤ) (z d : ℤ) → has xs z ≡ true → (k : ℕ) × (k < length xs) × (get_or xs k d ≡ z)
at_has [] z d there = absurd (true≢false (sym there))
at_has (x ∷ xs) z d there = by (int_eq z x) refl there (at_has xs z d)
  where
    by : (b : Bool) → int_eq z x ≡ b → (b || has xs z) ≡ true → (has xs z ≡ true → (k : ℕ) × (k < length xs) × (get_or xs k d ≡ z)) → (k : ℕ) × (k < length (x ∷ xs)) × (get_or (x ∷ xs) k d ≡ z)
    by true e g next = let is : x ≡ z = grind (arith, ints, e) in (0, omega arith, is)
    by false e g next = let rest = next g in (suc rest.0, omega (arith, rest.1), rest.2)

pub both_ways : (a b : Bool) → (a ≡ true → b ≡ true) → (b ≡ true → a ≡ true) → a ≡ b
both_ways true b h g = sym (h refl)
both_ways false true h g = g refl
both_ways false false h g = refl

tail_rises : (x : ℕ) (xs : List ℕ) → IsStrictlyIncreasing (x ∷ xs) → IsStrictlyIncreasing xs
tail_rises x xs inc k h = let next : suc k + 1 ≡ suc (k + 1) = omega arith in let it = inc (suc k) (omega (arith, h)) in rw next at it

rises_from : (f : ℕ → ℤ) → Climbs f → (x : ℕ) (xs : List ℕ) → IsStrictlyIncreasing (x ∷ xs) → RisesFrom (f x) (map f xs)
rises_from f climbs x [] inc = tt
rises_from f climbs x (y ∷ ys) inc = (climbs x y (inc 0 (omega arith)), rises_from f climbs y ys (tail_rises x (y ∷ ys) inc))

pub rises : (f : ℕ → ℤ) → Climbs f → (xs : List ℕ) → IsStrictlyIncreasing xs → Rises (map f xs)
rises f climbs [] inc = tt
rises f climbs (x ∷ xs) inc = rises_from f climbs x xs inc

module _ (f : ℕ → ℤ) (climbs : Climbs f) (numbers entries ranks : List ℕ) (r : AreRanks numbers entries ranks) where
  long : length ranks ≡ length numbers
  long = sym (length-map ranks (λ n. get_or entries n 0)) ∙ ap length r.each

  at : (k : ℕ) → k < length numbers → (get_or ranks k 0 < length entries) × (get_or entries (get_or ranks k 0) 0 ≡ get_or numbers k 0)
  at k h =
      let low : k < length ranks = omega (arith, h, long) in
      (r.inside k 0 low, sym (get_or-map (λ n. get_or entries n 0) ranks k 0 0 low) ∙ ap (λ xs. get_or xs k 0) r.each)

  same : (z : ℤ) → has (map f entries) z ≡ has (map f numbers) z
  same z = both_ways (has (map f entries) z) (has (map f numbers) z)
      (λ there.
      let k = at_has (map f entries) z (f 0) there in
      let low : k.0 < length entries = omega (arith, k.1, length-map entries f) in
      let c = r.among k.0 0 low in
      has_at (map f numbers) c.0 z (f 0) (omega (arith, c.1, length-map numbers f))
      (get_or-map f numbers c.0 0 (f 0) c.1 ∙ ap f (sym (get_or_default_zero numbers c.0 (get_or entries k.0 0) c.1) ∙ c.2) ∙ sym (get_or-map f entries k.0 0 (f 0) low) ∙ k.2))
      (λ there.
      let k = at_has (map f numbers) z (f 0) there in
      let low : k.0 < length numbers = omega (arith, k.1, length-map numbers f) in
      let a = at k.0 low in
      has_at (map f entries) (get_or ranks k.0 0) z (f 0) (omega (arith, a.0, length-map entries f))
      (get_or-map f entries (get_or ranks k.0 0) 0 (f 0) a.0 ∙ ap f a.1 ∙ sym (get_or-map f numbers k.0 0 (f 0) low) ∙ k.2))

  -- the entries stand for the integers, each once and in order
  pub entries_are : map f entries ≡ dedup int_eq (sorted (map f numbers))
  entries_are = distinct-is (map f entries) (map f numbers) (rises f climbs entries r.ascending) same

  -- entries are apart
  pub apart : (i j : ℕ) → i < length entries → j < length entries → get_or entries i 0 ≡ get_or entries j 0 → i ≡ j
  apart i j a b e =
      elim (cases_lt i j) [
        | inl less ↦ let c = AllPairs-from_increasing entries r.ascending i j 0 less b in absurd (omega (arith, c, e))
        | inr upto ↦ elim (cases_lt j i) [
          | inl more ↦ let c = AllPairs-from_increasing entries r.ascending j i 0 more a in absurd (omega (arith, c, e))
          | inr same ↦ omega (arith, upto, same)
        ]
      ]

  -- two entries stand for the same integer where they are at one place
  pub same_test : (q g : ℕ) → q < length entries → g < length entries → int_eq (f (get_or entries q 0)) (f (get_or entries g 0)) ≡ (q == g)
  same_test q g a b =
      elim (cases_eq q g) [
        | inl here ↦ let p : int_eq (f (get_or entries q 0)) (f (get_or entries g 0)) ≡ true = grind (arith, ints, ap (λ n. f (get_or entries n 0)) here) in let t : (q == g) ≡ true = grind (arith, nat_tests, here) in p ∙ sym t
        | inr elsewhere ↦
            let t : (q == g) ≡ false = grind (arith, nat_tests, elsewhere) in
            differ (get_or entries q 0) (get_or entries g 0) (λ e. elsewhere (apart q g a b e)) ∙ sym t
      ]
    where
      differ : (m n : ℕ) → (m ≡ n → ⊥) → int_eq (f m) (f n) ≡ false
      differ m n other =
          elim (cases_lt m n) [
            | inl less ↦ let c = climbs m n less in grind (arith, ints, c)
            | inr upto ↦ elim (cases_lt n m) [
              | inl more ↦ let c = climbs n m more in grind (arith, ints, c)
              | inr same ↦ absurd (other (omega (arith, upto, same)))
            ]
          ]
