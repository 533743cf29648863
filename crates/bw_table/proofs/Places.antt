-- The places that a mask has in, and the values that stand there.
use Rattle.std.proofs.Common.{◌≡◌, ℕ, suc, zero, ℤ, ◌+◌, ◌-◌, ◌<◌, ◌≤◌, true, false, Bool, Option, None, Some, List, [], ◌∷◌, ◌++◌, length, get_or, map, refl, sym, ap, ◌∙◌, inl, inr, arith, count_by, if◌then◌else◌}
use Rattle.std.specs.List.{All, filter, range_with_len}
use Rattle.std.proofs.lemmas.Bool.{cases_Bool}
use Rattle.std.proofs.lemmas.List.{get_or-map, map-append, take_all}
use Rattle.std.proofs.lemmas.List.Sums.{count_by-le-length, length-filter}
use Rattle.std.proofs.lemmas.List.Elements.{All-filter, All-head, All-tail, filter_passes}
use Rattle.std.proofs.lemmas.List.FromFn.{get_or-range_with_len, length-range_with_len}
use Rattle.bw_mask.specs.Masks.{IsNext, MaskRows, len, row_at}
use Rattle.bw_code.specs.Lists.{made}
use Rattle.bw_code.proofs.Lists.{made_at, made_is}
use Rattle.bw_column.specs.Columns.{ColumnView}
use Rattle.bw_column.specs.Copies.{masked}
use Rattle.bw_column.specs.Places.{chosen_values, put_at, rank}
use Rattle.bw_column.proofs.Ordered.{count_below, place_at, place_in, place_out}
use Rattle.bw_column.specs.Values.{value_at}
use Rattle.bw_table.specs.Changes.{places, places_below}
use Rattle.bw_table.specs.Sets.{gathered}
use Rattle.bw_table.specs.Slots.{row_of}
use Rattle.bw_table.specs.declared.setting.SetTo.TheVariants.{Column}

-- functions that agree at each element
pub map_alike : {A B : Type 0} (f g : A → B) (xs : List A) → All (λ x. f x ≡ g x) xs → map f xs ≡ map g xs
map_alike f g [] h = refl
map_alike f g (x ∷ xs) h =
    let rest : map f xs ≡ map g xs = map_alike f g xs (All-tail (λ y. f y ≡ g y) x xs h) in
    let first : f x ≡ g x = All-head (λ y. f y ≡ g y) x xs h in
    rw (first, rest) refl

pub map_twice : {A B C : Type 0} (g : B → C) (f : A → B) (xs : List A) → map g (map f xs) ≡ map (λ x. g (f x)) xs
map_twice g f [] = refl
map_twice g f (x ∷ xs) = ap (λ ys. g (f x) ∷ ys) (map_twice g f xs)

pub filter_mapped : {A B : Type 0} (p : B → Bool) (f : A → B) (xs : List A) → filter p (map f xs) ≡ map f (filter (λ x. p (f x)) xs)
filter_mapped p f [] = refl
filter_mapped p f (x ∷ xs) =
    elim (cases_Bool (p (f x))) [
      | inl e ↦ rw e (ap (λ ys. f x ∷ ys) (filter_mapped p f xs))
      | inr e ↦ rw e (filter_mapped p f xs)
    ]

module _ (mask : MaskRows) where
  pub gathered_in : (f : ℕ → Option ℤ) (n : ℕ) → row_at mask n ≡ true → map f (places_below mask (n + 1)) ≡ map f (places_below mask n) ++ f n ∷ []
  gathered_in f n e = ap (map f) (place_in mask n e) ∙ map-append f (places_below mask n) (n ∷ [])

  pub gathered_out : (f : ℕ → Option ℤ) (n : ℕ) → row_at mask n ≡ false → map f (places_below mask (n + 1)) ≡ map f (places_below mask n)
  gathered_out f n e = ap (map f) (place_out mask n e)

  places_over : (a d : ℕ) → ((j : ℕ) → a ≤ j → j < a + d → row_at mask j ≡ false) → places_below mask (a + d) ≡ places_below mask a
  places_over a zero out = let e : a + zero ≡ a = omega arith in ap (places_below mask) e
  places_over a (suc d) out =
      let e : a + suc d ≡ a + d + 1 = omega arith in
      ap (places_below mask) e ∙ place_out mask (a + d) (out (a + d) (omega arith) (omega arith)) ∙ places_over a d (λ j l h. out j l (omega arith))

  pub places_between : (a b : ℕ) → a ≤ b → ((j : ℕ) → a ≤ j → j < b → row_at mask j ≡ false) → places_below mask b ≡ places_below mask a
  places_between a b l out =
      let e : a + (b - a) ≡ b = omega arith in
      ap (places_below mask) (sym e) ∙ places_over a (b - a) (λ j low high. out j low (omega (arith, e)))

  -- the next row that is in comes last among the places below the one behind it
  pub gathered_next : (f : ℕ → Option ℤ) (at next : ℕ) → IsNext (row_at mask) at (Some next) → map f (places_below mask (next + 1)) ≡ map f (places_below mask at) ++ f next ∷ []
  gathered_next f at next is = gathered_in f next is.1 ∙ ap (λ ps. map f ps ++ f next ∷ []) (places_between at next is.0 is.2)

  -- where no row is in from here on, no place is left
  pub gathered_all : (f : ℕ → Option ℤ) (at : ℕ) → at ≤ len mask → IsNext (row_at mask) at None → map f (places_below mask at) ≡ map f (places mask)
  gathered_all f at l out = ap (map f) (sym (places_between at (len mask) l (λ j low high. out j low)))

  -- as many places as rows that are in
  pub count_places : length (places mask) ≡ count_by (λ row. row) mask.rows
  count_places = count_below mask (len mask) (omega arith) ∙ ap (count_by (λ row. row)) (take_all (len mask) mask.rows (omega arith))

  -- values gathered from the places, put back there
  pub put_gathered : (f : ℕ → Option ℤ) (old : List (Option ℤ)) (i : ℕ) → i < len mask → put_at mask (map f (places mask)) old i ≡ (if row_at mask i then f i else value_at old i)
  put_gathered f old i l =
      elim (cases_Bool (row_at mask i)) [
        | inl e ↦
            let there = place_at mask (len mask) i l (omega arith) e in
            rw e (get_or-map f (places mask) (rank mask i) 0 None there.0 ∙ ap f there.1)
        | inr e ↦ rw e refl
      ]

  pub places_in : All (λ i. row_at mask i ≡ true) (places mask)
  places_in = filter_passes (row_at mask) (range_with_len 0 (len mask))

  pub places_inside : All (λ i. i < len mask) (places mask)
  places_inside = All-filter (row_at mask) (λ i. i < len mask) (range_with_len 0 (len mask)) (λ k d l. omega (arith, length-range_with_len 0 (len mask), get_or-range_with_len 0 (len mask) k d (omega (arith, length-range_with_len 0 (len mask)))))

-- where as many elements pass a test as there are, all do
pub all_stay : {A : Type 0} (p : A → Bool) (xs : List A) → length (filter p xs) ≡ length xs → filter p xs ≡ xs
all_stay p [] h = refl
all_stay p (x ∷ xs) h =
    elim (cases_Bool (p x)) [
      | inl e ↦
          let n : length (filter p (x ∷ xs)) ≡ length (filter p xs) + 1 = rw e (omega arith) in
          let rest : filter p xs ≡ xs = all_stay p xs (omega (arith, n, h)) in
          let here : filter p (x ∷ xs) ≡ x ∷ filter p xs = rw e refl in
          here ∙ ap (λ ys. x ∷ ys) rest
      | inr e ↦
          let n : length (filter p (x ∷ xs)) ≡ length (filter p xs) = rw e refl in
          absurd (omega (arith, n, h, length-filter p xs, count_by-le-length p xs))
    ]

-- where all rows are in, the values that stand in them are all
pub all_chosen_values : (mask : MaskRows) (values : List (Option ℤ)) → length values ≡ len mask → count_by (λ row. row) mask.rows ≡ length values → chosen_values mask values ≡ values
all_chosen_values mask values long all =
    let kept : places mask ≡ range_with_len 0 (len mask) = all_stay (row_at mask) (range_with_len 0 (len mask)) (omega (arith, count_places mask, all, long, length-range_with_len 0 (len mask))) in
    ap (map (value_at values)) kept ∙ ap (λ n. made n (value_at values)) (sym long) ∙ sym (made_is (length values) (value_at values) values None refl (λ i h. refl))

-- a column's values in the rows of a mask, found through the rows across
pub gathered_column : (columns : List ColumnView) (mask : MaskRows) (k : ℕ) (d : ColumnView) → k < length columns → gathered columns mask (Column k) ≡ chosen_values mask (get_or columns k d).values
gathered_column columns mask k d inside =
    map_alike (λ i. value_at (row_of columns i) k) (value_at (get_or columns k d).values) (places mask) (λ j e l. get_or-map (λ (column : ColumnView). value_at column.values (get_or (places mask) j e)) columns k d None inside)

-- a copy that is null outside of a mask has the same values in its rows
pub masked_chosen : (mask : MaskRows) (values : List (Option ℤ)) → length values ≡ len mask → chosen_values mask (masked mask values) ≡ chosen_values mask values
masked_chosen mask values long =
    map_alike (value_at (masked mask values)) (value_at values) (places mask) (λ j d l.
    let i = get_or (places mask) j d in
    let set : row_at mask i ≡ true = places_in mask j d l in
    made_at (length values) (λ n. if row_at mask n then value_at values n else None) i None (omega (arith, places_inside mask j d l, long)) ∙ rw set refl)
