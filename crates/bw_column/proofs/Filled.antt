-- A value for each row, put in the set places of a mask, word by word.
use Rattle.std.proofs.Common.{Bool, List, None, Option, ap, arith, count_by, drop, false, if◌then◌else◌, inl, inr, length, length-drop, length-take, refl, replicate, sym, take, true, ℕ, ℤ, ◌&&◌, ◌+◌, ◌-◌, ◌<◌, ◌≡◌, ◌≤◌, ◌∙◌}
use Rattle.std.specs.Prelude.{nat_lt}
use Rattle.std.proofs.lemmas.Bool.{both_ways, cases_Bool, cases_lt, le-ltb, lt-ltb}
use Rattle.std.proofs.lemmas.List.{get_or-replicate, get_or_past}
use Rattle.bw_mask.specs.Masks.{IsNext, MaskRows, bit_of, row_at}
use Rattle.bw_code.specs.Columns.{is_chosen}
use Rattle.bw_code.specs.Lists.{made}
use Rattle.bw_code.proofs.Lists.{made_at, made_is, made_len, part_at}
use Rattle.bw_code.proofs.Runs.{chosen_above, chosen_below, chosen_from}
use Rattle.bw_column.specs.Places.{overwritten, put_at, rank}
use Rattle.bw_column.specs.Values.{value_at}
use Rattle.bw_column.proofs.Overwriting.{below_len}
use Rattle.bw_column.proofs.Ranks.{rank_below}

-- where a place is set, there is some
pub some_set : (places : MaskRows) (place : ℕ) → row_at places place ≡ true → 0 < count_by (λ row. row) places.rows
some_set places place set = omega (arith, rank_below places place (below_len places place set) set)

-- as many times one value as places are set: each of them has it
pub one_for_all : (places : MaskRows) (value : Option ℤ) (k : ℕ) → row_at places k ≡ true → value_at (replicate (count_by (λ row. row) places.rows) value) (rank places k) ≡ value
one_for_all places value k t = get_or-replicate (count_by (λ row. row) places.rows) (rank places k) value None (rank_below places k (below_len places k t) t)

module _ (places : MaskRows) (v : ℕ → Option ℤ) (old : List (Option ℤ)) where
  abbrev pub fill_at : ℕ → Option ℤ
  fill_at k = if row_at places k then v k else value_at old k

  unset : (k : ℕ) → row_at places k ≡ false → value_at old k ≡ fill_at k
  unset k t = rw t refl

  put_same : (all : List (Option ℤ)) → ((k : ℕ) → row_at places k ≡ true → value_at all (rank places k) ≡ v k) → (k : ℕ) → fill_at k ≡ put_at places all old k
  put_same all same k =
      elim (cases_Bool (row_at places k)) [
        | inl t ↦ rw t (sym (same k t))
        | inr t ↦ rw t refl
      ]

  -- all rows at once
  pub all_put : (now all : List (Option ℤ)) → now ≡ made (length old) fill_at → ((k : ℕ) → row_at places k ≡ true → value_at all (rank places k) ≡ v k) → now ≡ overwritten places all old
  all_put now all is same =
      is ∙ made_is (length old) (put_at places all old) (made (length old) fill_at) None (made_len (length old) fill_at) (λ k h.
      made_at (length old) fill_at k None h ∙ put_same all same k)

  module _ (now : List (Option ℤ)) (at : ℕ) (same_len : length now ≡ length old)
      (done : (k : ℕ) → k < at → value_at now k ≡ fill_at k)
      (rest : (k : ℕ) → at ≤ k → value_at now k ≡ value_at old k) where
    pub all_filled : (all : List (Option ℤ)) → ((k : ℕ) → row_at places k ≡ true → value_at all (rank places k) ≡ v k) → IsNext (row_at places) at None → now ≡ overwritten places all old
    all_filled all same none =
        made_is (length old) (put_at places all old) now None same_len (λ k h.
        elim (cases_lt k at) [
          | inl l ↦ done k l
          | inr l ↦ rest k l ∙ unset k (none k l)
        ] ∙ put_same all same k)

    -- the chosen rows of a word get theirs
    module _ (start n rows place : ℕ) (inside : start + n ≤ length old) (past : at ≤ start + n) (to : start ≤ place) (none : (j : ℕ) → at ≤ j → j < place → row_at places j ≡ false)
        (bits : (i : ℕ) → bit_of rows i ≡ (nat_lt i n && row_at places (start + i)))
        (u : ℕ → Option ℤ) (agree : (j : ℕ) → is_chosen start rows j ≡ true → u j ≡ v j) where
      abbrev filled : ℕ → Option ℤ
      filled j = if is_chosen start rows j then u j else value_at now j

      abbrev next : List (Option ℤ)
      next = made (length now) filled

      pub filled_len : length next ≡ length old
      filled_len = made_len (length now) filled ∙ same_len

      filled_is : (k : ℕ) → k < length now → value_at next k ≡ filled k
      filled_is k h = made_at (length now) filled k None h

      left : (k : ℕ) → k < length now → is_chosen start rows k ≡ false → value_at next k ≡ value_at now k
      left k h t = filled_is k h ∙ rw t refl

      taken : (k : ℕ) → k < length now → is_chosen start rows k ≡ true → value_at next k ≡ v k
      taken k h t = filled_is k h ∙ rw t (agree k t)

      stays : (k : ℕ) → (at ≤ k → row_at places k ≡ false) → value_at now k ≡ fill_at k
      stays k out =
          elim (cases_lt k at) [
            | inl l ↦ done k l
            | inr l ↦ rest k l ∙ unset k (out l)
          ]

      bit_is : (i : ℕ) → i < n → bit_of rows i ≡ row_at places (start + i)
      bit_is i h = bits i ∙ rw (lt-ltb i n h) refl

      pub run_filled : (k : ℕ) → k < start + n → value_at next k ≡ fill_at k
      run_filled k h =
          let there : k < length now = omega (arith, h, inside, same_len) in
          elim (cases_lt k start) [
            | inl below ↦ left k there (chosen_below start rows k below) ∙ stays k (λ l. none k l (omega (arith, below, to)))
            | inr from ↦
                let i = k - start in
                let here : start + i ≡ k = omega (arith, from) in
                let bit : is_chosen start rows k ≡ row_at places k = chosen_from start rows k from ∙ bit_is i (omega (arith, h, from)) ∙ ap (row_at places) here in
                elim (cases_Bool (row_at places k)) [
                  | inl t ↦ taken k there (bit ∙ t) ∙ rw t refl
                  | inr t ↦ left k there (bit ∙ t) ∙ stays k (λ l. t)
                ]
          ]

      pub rest_unfilled : (k : ℕ) → start + n ≤ k → value_at next k ≡ value_at old k
      rest_unfilled k h =
          elim (cases_lt k (length now)) [
            | inl there ↦
                let out : bit_of rows (k - start) ≡ false = bits (k - start) ∙ rw (le-ltb (k - start) n (omega (arith, h))) refl in
                left k there (chosen_from start rows k (omega (arith, h)) ∙ out) ∙ rest k (omega (arith, h, past))
            | inr beyond ↦ get_or_past next k None (omega (arith, beyond, filled_len, same_len)) ∙ sym (get_or_past old k None (omega (arith, beyond, same_len)))
          ]

-- past the last of n rows a word of a mask has no bit
pub outside_word : (rows n : ℕ) (row : ℕ → Bool) → ((i : ℕ) → bit_of rows i ≡ (nat_lt i n && row i)) → (i : ℕ) → n ≤ i → bit_of rows i ≡ false
outside_word rows n row bits i h = bits i ∙ rw (le-ltb i n h) refl

-- a row that a word chooses among n is one of these
pub chosen_among : (start rows n j : ℕ) → ((i : ℕ) → n ≤ i → bit_of rows i ≡ false) → is_chosen start rows j ≡ true → (start ≤ j) × (j - start < n)
chosen_among start rows n j given t =
    let from : start ≤ j = chosen_above start rows j t in (
      from,
      elim (cases_lt (j - start) n) [
        | inl h ↦ h
        | inr h ↦ absurd (both_ways (bit_of rows (j - start)) (given (j - start) h) (sym (chosen_from start rows j from) ∙ t))
      ],
    )

-- what a word takes of the copy stands in the copy at the same rows
pub taken_of_run : (copy : List (Option ℤ)) (start rows n : ℕ) → start + n ≤ length copy → ((i : ℕ) → n ≤ i → bit_of rows i ≡ false) → (j : ℕ) → is_chosen start rows j ≡ true → value_at (take n (drop start copy)) (j - start) ≡ value_at copy j
taken_of_run copy start rows n inside given j t =
    let here = chosen_among start rows n j given t in
    let run : start + (j - start) ≡ j = omega (arith, here.0) in
    part_at copy (take n (drop start copy)) start n (j - start) None refl (omega (arith, here.1, length-take n (drop start copy), length-drop start copy, inside)) ∙ ap (value_at copy) run
