-- Two ascending lists merged, one entry further.
use Rattle.std.proofs.Common.{Bool, List, [], ap, arith, false, get_or, inl, inr, length, pos, refl, sym, true, ℕ, ℤ, ◌++◌, ◌+◌, ◌<ℤ◌, ◌<◌, ◌⊎◌, ◌≡◌, ◌≤◌, ◌∙◌, ◌∷◌}
use Rattle.std.specs.Prelude.{Contains}
use Rattle.std.proofs.lemmas.Bool.{cases_eq, cases_lt}
use Rattle.std.proofs.lemmas.Int.{ints}
use Rattle.std.proofs.lemmas.List.{get_or_append_left, get_or_default, get_or_push, length-append}
use Rattle.bw_code.specs.Ascending.{IsAscending}
use Rattle.bw_code.specs.Encodings.{entry_code}
use Rattle.bw_code.proofs.Entries.{entry_at}
use Rattle.bw_dictionary.specs.Merging.{ArePlaced, AreStandingCodes, IsOneOf, IsUnder, IsUnion, Merging, StandsAt, StandsIn}

before : (x y z : ℤ) → x <ℤ y → y <ℤ z → x <ℤ z
before x y z a b = omega (arith, ints)

-- below the first, below all after it
below_rest : (xs : List ℤ) (from : ℕ) (x : ℤ) → IsAscending xs → (from < length xs → x <ℤ get_or xs from (pos 0)) → (n : ℕ) → from ≤ n → n < length xs → x <ℤ get_or xs n (pos 0)
below_rest xs from x up first n upto h =
    elim (cases_lt from n) [
      | inl less ↦ before x (get_or xs from (pos 0)) (get_or xs n (pos 0)) (first (omega (arith, less, h))) (up from n less h)
      | inr past ↦ let same : from ≡ n = omega (arith, upto, past) in let here = first (omega (arith, same, h)) in rw same at here
    ]

-- one of the first, and of more
of_more : (xs : List ℤ) (stands : List Bool) (n m : ℕ) (x : ℤ) → n ≤ m → IsOneOf xs stands n x → IsOneOf xs stands m x
of_more xs stands n m x p it = (it.0, omega (arith, it.1, p), it.2, it.3)

abbrev Sources : List ℤ → List Bool → List ℤ → List Bool → ℕ → ℕ → ℤ → Type 0
Sources old old_stands new new_stands i j x = IsOneOf old old_stands i x ⊎ IsOneOf new new_stands j x

from_more : (old : List ℤ) (old_stands : List Bool) (new : List ℤ) (new_stands : List Bool) (i j a b : ℕ) (x : ℤ) → i ≤ a → j ≤ b → Sources old old_stands new new_stands i j x → Sources old old_stands new new_stands a b x
from_more old old_stands new new_stands i j a b x p q it = elim it [
  | inl was ↦ inl (of_more old old_stands i a x p was)
  | inr was ↦ inr (of_more new new_stands j b x q was)
]

-- an entry that is not in use has no place
pub place_none : (xs : List ℤ) (stands : List Bool) (n : ℕ) (union : List ℤ) (table : List ℕ) → get_or stands n false ≡ false → ArePlaced xs stands n union table → ArePlaced xs stands (n + 1) union (table ++ 0 ∷ [])
place_none xs stands n union table none v = record {
  count = length-append table (0 ∷ []) ∙ ap (λ k. k + 1) v.count;
  each = λ m h there. elim (cases_eq m n) [
    | inl same ↦ false_true (sym none ∙ ap (λ k. get_or stands k false) (sym same) ∙ there)
    | inr other ↦
        let inside : m < n = omega (arith, h, other) in
        rw (get_or_append_left table (0 ∷ []) 0 m (omega (arith, inside, v.count))) (v.each m inside there)
  ];
}
  where
    false_true : {P : Type 0} → false ≡ true → P
    false_true e = cc

-- one entry more
module _ (union : List ℤ) (x : ℤ) where
  abbrev more : List ℤ
  more = union ++ x ∷ []

  long : length more ≡ length union + 1
  long = length-append union (x ∷ [])

  at_old : (k : ℕ) → k < length union → get_or more k (pos 0) ≡ get_or union k (pos 0)
  at_old k h = get_or_append_left union (x ∷ []) (pos 0) k h

  at_new : (k : ℕ) → length union ≡ k → get_or more k (pos 0) ≡ x
  at_new k e = get_or_push union x (pos 0) k e

  push_ascending : IsAscending union → ((k : ℕ) → k < length union → get_or union k (pos 0) <ℤ x) → IsAscending more
  push_ascending up under i j less h =
      elim (cases_lt j (length union)) [
        | inl inner ↦ rw (at_old i (omega (arith, less, inner)), at_old j inner) (up i j less inner)
        | inr last ↦ let end : length union ≡ j = omega (arith, h, last, long) in rw (at_old i (omega (arith, less, end)), at_new j end) (under i (omega (arith, less, end)))
      ]

  push_under : (xs : List ℤ) (from to : ℕ) → from ≤ to → IsUnder xs from union → ((n : ℕ) → to ≤ n → n < length xs → x <ℤ get_or xs n (pos 0)) → IsUnder xs to more
  push_under xs from to upto under here k n h a b =
      elim (cases_lt k (length union)) [
        | inl inner ↦ rw (at_old k inner) (under k n inner (omega (arith, a, upto)) b)
        | inr last ↦ let end : length union ≡ k = omega (arith, h, last, long) in rw (at_new k end) (here n a b)
      ]

  push_from : (old : List ℤ) (old_stands : List Bool) (new : List ℤ) (new_stands : List Bool) (i j a b : ℕ) → i ≤ a → j ≤ b → ((k : ℕ) → k < length union → Sources old old_stands new new_stands i j (get_or union k (pos 0))) → Sources old old_stands new new_stands a b x
      → (k : ℕ) → k < length more → Sources old old_stands new new_stands a b (get_or more k (pos 0))
  push_from old old_stands new new_stands i j a b p q was here k h =
      elim (cases_lt k (length union)) [
        | inl inner ↦ rw (at_old k inner) (from_more old old_stands new new_stands i j a b (get_or union k (pos 0)) p q (was k inner))
        | inr last ↦ let end : length union ≡ k = omega (arith, h, last, long) in rw (at_new k end) here
      ]

  -- the places of a list's entries stay as they are
  still : (xs : List ℤ) (stands : List Bool) (n : ℕ) (table : List ℕ) → ArePlaced xs stands n union table → ArePlaced xs stands n more table
  still xs stands n table v = record {
    count = v.count;
    each = λ m h there. let was = v.each m h there in (omega (arith, was.0, long), at_old (get_or table m 0) was.0 ∙ was.1);
  }

  -- and the next one's is the last
  place_next : (xs : List ℤ) (stands : List Bool) (n : ℕ) (table : List ℕ) (p : ℕ) → p ≡ length union → x ≡ get_or xs n (pos 0) → ArePlaced xs stands n union table → ArePlaced xs stands (n + 1) more (table ++ p ∷ [])
  place_next xs stands n table p is same v = record {
    count = length-append table (p ∷ []) ∙ ap (λ k. k + 1) v.count;
    each = λ m h there. elim (cases_eq m n) [
      | inl e ↦ rw (get_or_push table p 0 m (v.count ∙ sym e)) (omega (arith, is, long), at_new p (sym is) ∙ same ∙ ap (λ k. get_or xs k (pos 0)) (sym e))
      | inr other ↦
          let inside : m < n = omega (arith, h, other) in
          let was = v.each m inside there in
          rw (get_or_append_left table (p ∷ []) 0 m (omega (arith, inside, v.count))) (omega (arith, was.0, long), at_old (get_or table m 0) was.0 ∙ was.1)
    ];
  }

module _ (old : List ℤ) (old_stands : List Bool) (new : List ℤ) (new_stands : List Bool) (i j : ℕ) (union : List ℤ) (moves places : List ℕ) (up_old : IsAscending old) (up_new : IsAscending new)
    (v : Merging old old_stands new new_stands i j union moves places) where
  pub skipped_old : get_or old_stands i false ≡ false → Merging old old_stands new new_stands (i + 1) j union (moves ++ 0 ∷ []) places
  skipped_old none = record {
    ascending = v.ascending;
    under_old = λ k n h a b. v.under_old k n h (omega (arith, a)) b;
    under_new = v.under_new;
    from = λ k h. from_more old old_stands new new_stands i j (i + 1) j (get_or union k (pos 0)) (omega arith) (omega arith) (v.from k h);
    few = omega (arith, v.few);
    moved = place_none old old_stands i union moves none v.moved;
    placed = v.placed;
  }

  pub skipped_new : get_or new_stands j false ≡ false → Merging old old_stands new new_stands i (j + 1) union moves (places ++ 0 ∷ [])
  skipped_new none = record {
    ascending = v.ascending;
    under_old = v.under_old;
    under_new = λ k n h a b. v.under_new k n h (omega (arith, a)) b;
    from = λ k h. from_more old old_stands new new_stands i j i (j + 1) (get_or union k (pos 0)) (omega arith) (omega arith) (v.from k h);
    few = omega (arith, v.few);
    moved = v.moved;
    placed = place_none new new_stands j union places none v.placed;
  }

  pub took_old : (p : ℕ) → i < length old → StandsAt old_stands i → (j < length new → get_or old i (pos 0) <ℤ get_or new j (pos 0)) → p ≡ length union
      → Merging old old_stands new new_stands (i + 1) j (union ++ get_or old i (pos 0) ∷ []) (moves ++ p ∷ []) places
  took_old p low there less is =
      let x = get_or old i (pos 0) in
      record {
        ascending = push_ascending union x v.ascending (λ k h. v.under_old k i h (omega arith) low);
        under_old = push_under union x old i (i + 1) (omega arith) v.under_old (λ n a b. up_old i n (omega (arith, a)) b);
        under_new = push_under union x new j j (omega arith) v.under_new (below_rest new j x up_new less);
        from = push_from union x old old_stands new new_stands i j (i + 1) j (omega arith) (omega arith) v.from (inl (i, omega arith, there, refl));
        few = omega (arith, v.few, long union x);
        moved = place_next union x old old_stands i moves p is refl v.moved;
        placed = still union x new new_stands j places v.placed;
      }

  pub took_new : (p : ℕ) → j < length new → StandsAt new_stands j → (i < length old → get_or new j (pos 0) <ℤ get_or old i (pos 0)) → p ≡ length union
      → Merging old old_stands new new_stands i (j + 1) (union ++ get_or new j (pos 0) ∷ []) moves (places ++ p ∷ [])
  took_new p low there less is =
      let x = get_or new j (pos 0) in
      record {
        ascending = push_ascending union x v.ascending (λ k h. v.under_new k j h (omega arith) low);
        under_old = push_under union x old i i (omega arith) v.under_old (below_rest old i x up_old less);
        under_new = push_under union x new j (j + 1) (omega arith) v.under_new (λ n a b. up_new j n (omega (arith, a)) b);
        from = push_from union x old old_stands new new_stands i j i (j + 1) (omega arith) (omega arith) v.from (inr (j, omega arith, there, refl));
        few = omega (arith, v.few, long union x);
        moved = still union x old old_stands i moves v.moved;
        placed = place_next union x new new_stands j places p is refl v.placed;
      }

  pub took_both : (p : ℕ) → i < length old → j < length new → StandsAt old_stands i → get_or old i (pos 0) ≡ get_or new j (pos 0) → p ≡ length union
      → Merging old old_stands new new_stands (i + 1) (j + 1) (union ++ get_or old i (pos 0) ∷ []) (moves ++ p ∷ []) (places ++ p ∷ [])
  took_both p low_old low_new there same_value is =
      let x = get_or old i (pos 0) in
      record {
        ascending = push_ascending union x v.ascending (λ k h. v.under_old k i h (omega arith) low_old);
        under_old = push_under union x old i (i + 1) (omega arith) v.under_old (λ n a b. up_old i n (omega (arith, a)) b);
        under_new = push_under union x new j (j + 1) (omega arith) v.under_new (λ n a b. let c = up_new j n (omega (arith, a)) b in rw (← same_value) at c);
        from = push_from union x old old_stands new new_stands i j (i + 1) (j + 1) (omega arith) (omega arith) v.from (inl (i, omega arith, there, refl));
        few = omega (arith, v.few, long union x);
        moved = place_next union x old old_stands i moves p is refl v.moved;
        placed = place_next union x new new_stands j places p is same_value v.placed;
      }

-- at the end a place is a code
placed_codes : (xs : List ℤ) (stands : List Bool) (union : List ℤ) (table : List ℕ) → IsAscending union → ArePlaced xs stands (length xs) union table → AreStandingCodes (entry_code union) xs stands table
placed_codes xs stands union table up v = record {
  count = v.count;
  each = λ m h there. let to = v.each m h there in entry_at union (get_or xs m (pos 0)) (get_or table m 0) up to.0 to.1;
}

module _ (old : List ℤ) (old_stands : List Bool) (new : List ℤ) (new_stands : List Bool) (i j : ℕ) (union : List ℤ) (moves places : List ℕ) (end_old : i ≡ length old) (end_new : j ≡ length new)
    (v : Merging old old_stands new new_stands i j union moves places) where
  pub is_union : IsUnion old old_stands new new_stands union moves places
  is_union = record {
    ascending = v.ascending;
    members = λ x. (forth x, back x);
    moved = placed_codes old old_stands union moves v.ascending (rw end_old at v.moved);
    placed = placed_codes new new_stands union places v.ascending (rw end_new at v.placed);
  }
    where
      forth : (x : ℤ) → Contains union x → StandsIn old old_stands x ⊎ StandsIn new new_stands x
      forth x h =
          let is : get_or union h.0 (pos 0) ≡ x = get_or_default union h.0 (pos 0) x h.1 ∙ h.2 in
          elim (v.from h.0 h.1) [
            | inl was ↦ inl (was.0, omega (arith, was.1, end_old), was.2, was.3 ∙ is)
            | inr was ↦ inr (was.0, omega (arith, was.1, end_new), was.2, was.3 ∙ is)
          ]

      back : (x : ℤ) → StandsIn old old_stands x ⊎ StandsIn new new_stands x → Contains union x
      back x h = elim h [
        | inl was ↦ let to = v.moved.each was.0 (omega (arith, was.1, end_old)) was.2 in (get_or moves was.0 0, to.0, get_or_default union (get_or moves was.0 0) x (pos 0) to.0 ∙ to.1 ∙ was.3)
        | inr was ↦ let to = v.placed.each was.0 (omega (arith, was.1, end_new)) was.2 in (get_or places was.0 0, to.0, get_or_default union (get_or places was.0 0) x (pos 0) to.0 ∙ to.1 ∙ was.3)
      ]

none_placed : (xs : List ℤ) (stands : List Bool) → ArePlaced xs stands 0 [] []
none_placed xs stands = record { count = refl; each = λ m h there. absurd (omega (arith, h)) }

pub none_yet : (old : List ℤ) (old_stands : List Bool) (new : List ℤ) (new_stands : List Bool) → Merging old old_stands new new_stands 0 0 [] [] []
none_yet old old_stands new new_stands = record {
  ascending = λ i j less h. absurd (omega (arith, h));
  under_old = λ k n h a b. absurd (omega (arith, h));
  under_new = λ k n h a b. absurd (omega (arith, h));
  from = λ k h. absurd (omega (arith, h));
  few = omega arith;
  moved = none_placed old old_stands;
  placed = none_placed new new_stands;
}
