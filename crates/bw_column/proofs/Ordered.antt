-- The set places of a mask, in order.
use Rattle.std.proofs.Common.{◌≡◌, ℕ, suc, zero, ℤ, ◌+◌, ◌<◌, ◌≤◌, true, false, Option, None, List, [], ◌∷◌, ◌++◌, length, get_or, refl, sym, ap, subst, ◌∙◌, inl, inr, arith, add-one, length-append}
use Rattle.std.specs.List.{All, filter, range_with_len}
use Rattle.std.proofs.lemmas.Bool.{cases_Bool, cases_lt}
use Rattle.std.proofs.lemmas.List.{append-nil, get_or_append_left, get_or_push, get_or-map, length_push, map-id}
use Rattle.std.proofs.lemmas.List.Elements.{All-map, filter-append}
use Rattle.std.proofs.lemmas.List.FromFn.{map-range_with_len_more}
use Rattle.bw_mask.specs.Masks.{MaskRows, len, row_at}
use Rattle.bw_column.specs.Places.{chosen_values, rank, set_below}
use Rattle.bw_column.specs.Values.{value_at}
use Rattle.bw_column.proofs.Chosen.{holds_any}
use Rattle.bw_column.proofs.Overwriting.{below_len}
use Rattle.bw_column.proofs.Ranks.{rank_set, rank_unset}

range_more : (n : ℕ) → range_with_len 0 (n + 1) ≡ range_with_len 0 n ++ n ∷ []
range_more n = sym (map-id (range_with_len 0 (n + 1))) ∙ map-range_with_len_more (λ (i : ℕ). i) 0 n n (omega arith) ∙ ap (λ xs. xs ++ n ∷ []) (map-id (range_with_len 0 n))

module _ (mask : MaskRows) where
  more : (n : ℕ) → set_below mask (n + 1) ≡ set_below mask n ++ filter (row_at mask) (n ∷ [])
  more n = ap (filter (row_at mask)) (range_more n) ∙ filter-append (row_at mask) (range_with_len 0 n) (n ∷ [])

  one : (n : ℕ) → row_at mask n ≡ true → filter (row_at mask) (n ∷ []) ≡ n ∷ []
  one n e = rw e refl

  none : (n : ℕ) → row_at mask n ≡ false → filter (row_at mask) (n ∷ []) ≡ []
  none n e = rw e refl

  pub place_in : (n : ℕ) → row_at mask n ≡ true → set_below mask (n + 1) ≡ set_below mask n ++ n ∷ []
  place_in n e = more n ∙ ap (λ ys. set_below mask n ++ ys) (one n e)

  pub place_out : (n : ℕ) → row_at mask n ≡ false → set_below mask (n + 1) ≡ set_below mask n
  place_out n e = more n ∙ ap (λ ys. set_below mask n ++ ys) (none n e) ∙ append-nil (set_below mask n)

  pub count_below : (n : ℕ) → n ≤ len mask → length (set_below mask n) ≡ rank mask n
  count_below zero h = refl
  count_below (suc n) h =
      let step : length (set_below mask (n + 1)) ≡ rank mask (n + 1) =
      elim (cases_Bool (row_at mask n)) [
        | inl e ↦ ap length (place_in n e) ∙ length_push (set_below mask n) n ∙ ap (λ k. k + 1) (count_below n (omega arith)) ∙ sym (rank_set mask n (omega arith) e)
        | inr e ↦ ap length (place_out n e) ∙ count_below n (omega arith) ∙ sym (rank_unset mask n (omega arith) e)
      ] in
      subst (λ (m : ℕ). length (set_below mask m) ≡ rank mask m) (add-one n) step

  -- a row that is in stands among the places at its rank
  pub place_at : (n i : ℕ) → i < n → n ≤ len mask → row_at mask i ≡ true → (rank mask i < length (set_below mask n)) × (get_or (set_below mask n) (rank mask i) 0 ≡ i)
  place_at zero i l h t = absurd (omega arith)
  place_at (suc n) i l h t =
      let step : (rank mask i < length (set_below mask (n + 1))) × (get_or (set_below mask (n + 1)) (rank mask i) 0 ≡ i) =
      elim (cases_lt i n) [
        | inl low ↦
            let before = place_at n i low (omega arith) t in
            let last = filter (row_at mask) (n ∷ []) in (
              omega (arith, before.0, ap length (more n), length-append (set_below mask n) last),
              ap (λ ys. get_or ys (rank mask i) 0) (more n) ∙ get_or_append_left (set_below mask n) last 0 (rank mask i) before.0 ∙ before.1,
            )
        | inr high ↦
            let e : i ≡ n = omega arith in
            let here : row_at mask n ≡ true = ap (row_at mask) (sym e) ∙ t in
            let count = count_below n (omega arith) in
            rw e (
              omega (arith, ap length (place_in n here), length_push (set_below mask n) n, count),
              ap (λ ys. get_or ys (rank mask n) 0) (place_in n here) ∙ get_or_push (set_below mask n) n 0 (rank mask n) count,
            )
      ] in
      subst (λ (m : ℕ). (rank mask i < length (set_below mask m)) × (get_or (set_below mask m) (rank mask i) 0 ≡ i)) (add-one n) step

  -- the value of a set place comes at its rank
  pub chosen_at : (values : List (Option ℤ)) (k : ℕ) → row_at mask k ≡ true → get_or (chosen_values mask values) (rank mask k) None ≡ value_at values k
  chosen_at values k t =
      let there = place_at (len mask) k (below_len mask k t) (omega arith) t in
      get_or-map (value_at values) (set_below mask (len mask)) (rank mask k) 0 None there.0 ∙ ap (value_at values) there.1

-- what holds of all values holds of those that stand in the set places
pub all_chosen : (P : Option ℤ → Type 0) (places : MaskRows) (values : List (Option ℤ)) → P None → All P values → All P (chosen_values places values)
all_chosen P places values none all = All-map P (value_at values) (set_below places (len places)) (λ k d l. holds_any P values none all (get_or (set_below places (len places)) k d))
