-- One more set place gets its value.
use Rattle.std.proofs.Common.{None, Option, Some, List, ap, arith, count_by, false, get_or, inl, inr, length, refl, set, sym, true, ℕ, ℤ, ◌+◌, ◌<◌, ◌≡◌, ◌≢◌, ◌≤◌, ◌∙◌}
use Rattle.std.proofs.lemmas.Bool.{both_ways, cases_Bool, cases_eq, cases_lt}
use Rattle.std.proofs.lemmas.List.{get_or-set_other, get_or-set_same, get_or_past}
use Rattle.bw_mask.specs.Masks.{IsNext, MaskRows, len, row_at}
use Rattle.bw_column.specs.Places.{ArePutFrom, overwritten, put_at, rank}
use Rattle.bw_column.specs.Values.{value_at}
use Rattle.bw_code.proofs.Lists.{made_is}
use Rattle.bw_column.proofs.Ranks.{rank_below, rank_set, rank_skip}

-- a row that is in is one of the rows
pub below_len : (places : MaskRows) (i : ℕ) → row_at places i ≡ true → i < len places
below_len places i h =
    elim (cases_lt i (len places)) [
      | inl l ↦ l
      | inr l ↦ absurd (both_ways (row_at places i) (get_or_past places.rows i false l) h)
    ]

module _ (places : MaskRows) (values old now : List (Option ℤ)) (at : ℕ)
    (same_len : length now ≡ length old)
    (done : (k : ℕ) → k < at → value_at now k ≡ put_at places values old k)
    (rest : (k : ℕ) → at ≤ k → value_at now k ≡ value_at old k) where
  module _ (place next : ℕ) (is : IsNext (row_at places) at (Some place)) (next_is : next ≡ rank places at) where
    pub rank_here : rank places place ≡ next
    rank_here = rank_skip places at place is.0 is.2 ∙ sym next_is

    pub next_rank : next + 1 ≡ rank places (place + 1)
    next_rank = sym (rank_set places place (below_len places place is.1) is.1 ∙ ap (λ n. n + 1) rank_here)

    pub next_below : next < count_by (λ row. row) places.rows
    next_below = omega (arith, rank_below places place (below_len places place is.1) is.1, rank_here)

    pub place_below : len places ≡ length old → place < length now
    place_below whole = omega (arith, below_len places place is.1, same_len)

    module _ (whole : len places ≡ length old) where
      here : get_or (set now place (value_at values next)) place None ≡ put_at places values old place
      here = get_or-set_same now place (value_at values next) None (place_below whole) ∙ rw (is.1, rank_here) refl

      pub done_more : (k : ℕ) → k < place + 1 → value_at (set now place (value_at values next)) k ≡ put_at places values old k
      done_more k h =
          elim (cases_eq k place) [
            | inl e ↦ rw e here
            | inr d ↦
                get_or-set_other now place k (value_at values next) None d
                ∙ elim (cases_lt k at) [
                  | inl l ↦ done k l
                  | inr l ↦ rest k l ∙ rw (is.2 k l (omega arith)) refl
                ]
          ]

      pub rest_less : (k : ℕ) → place + 1 ≤ k → value_at (set now place (value_at values next)) k ≡ value_at old k
      rest_less k h = let d : k ≢ place = omega arith in get_or-set_other now place k (value_at values next) None d ∙ rest k (omega (arith, is.0))

  -- a run of places more
  module _ (start n place : ℕ) (new : List (Option ℤ)) (put : ArePutFrom places values start n new now) (low : at ≤ start) (to : start ≤ place) (none : (j : ℕ) → at ≤ j → j < place → row_at places j ≡ false) where
    put_again : (k : ℕ) → start ≤ k → put_at places values now k ≡ put_at places values old k
    put_again k from =
        elim (cases_Bool (row_at places k)) [
          | inl t ↦ rw t refl
          | inr t ↦ rw t (rest k (omega (arith, low, from)))
        ]

    pub run_done : (k : ℕ) → k < start + n → value_at new k ≡ put_at places values old k
    run_done k h =
        elim (cases_lt k start) [
          | inl below ↦
              put.outside k (λ l. absurd (omega (arith, l, below)))
              ∙ elim (cases_lt k at) [
                | inl l ↦ done k l
                | inr l ↦ rest k l ∙ rw (none k l (omega (arith, below, to))) refl
              ]
          | inr from ↦ put.inside k from h ∙ put_again k from
        ]

    pub run_rest : (k : ℕ) → start + n ≤ k → value_at new k ≡ value_at old k
    run_rest k h = put.outside k (λ _. h) ∙ rest k (omega (arith, h, low))

  pub all_done : IsNext (row_at places) at None → now ≡ overwritten places values old
  all_done none =
      made_is (length old) (put_at places values old) now None same_len (λ k h.
      elim (cases_lt k at) [
        | inl l ↦ done k l
        | inr l ↦ rest k l ∙ rw (none k l) refl
      ])
