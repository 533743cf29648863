-- The values of the set places of a word, spread over a run and put there.
use Rattle.std.proofs.Common.{get_or, List, None, Option, ap, arith, count_by, false, if◌then◌else◌, inl, inr, length, refl, sym, true, ℕ, ℤ, ◌&&◌, ◌+◌, ◌-◌, ◌<◌, ◌≡◌, ◌≤◌, ◌∙◌}
use Rattle.std.specs.List.{All}
use Rattle.std.specs.Prelude.{nat_lt}
use Rattle.std.proofs.lemmas.Bool.{cases_Bool, cases_lt, le-ltb, lt-ltb}
use Rattle.std.proofs.lemmas.List.{ext_get_or, get_or_default, get_or_past, length-map}
use Rattle.bw_mask.specs.Masks.{MaskRows, bit_of, len, row_at}
use Rattle.bw_code.specs.Columns.{is_chosen}
use Rattle.bw_code.proofs.Lists.{made_at, made_len}
use Rattle.bw_code.proofs.Runs.{chosen_below, chosen_from}
use Rattle.bw_code.specs.declared.encoding.Encoding.{Encoding}
use Rattle.bw_column.specs.Codes.{code_for, codes_for}
use Rattle.bw_column.specs.Places.{ArePutFrom, put_at, put_values, rank}
use Rattle.bw_column.specs.Values.{value_at}
use Rattle.bw_column.proofs.Chosen.{code_any}
use Rattle.bw_column.proofs.Ranks.{rank_below}

module _ (places : MaskRows) (values out : List (Option ℤ)) (start n : ℕ) (inside : start + n ≤ len places)
    (each : (i : ℕ) → i < n → value_at out i ≡ (if row_at places (start + i) then value_at values (rank places (start + i)) else None)) where
  pub spread_all : (P : Option ℤ → Type 0) → P None → All P values → count_by (λ row. row) places.rows ≡ length values → length out ≡ n → All P out
  spread_all P none all count long k d h =
      let low : k < n = omega (arith, h, long) in
      let here : start + k < len places = omega (arith, low, inside) in
      elim (cases_Bool (row_at places (start + k))) [
        | inl t ↦ rw (get_or_default out k d None h, each k low, t) (all (rank places (start + k)) None (omega (arith, count, rank_below places (start + k) here t)))
        | inr t ↦ rw (get_or_default out k d None h, each k low, t) none
      ]

  -- a null's code is 0, so that codes are spread as the values are
  pub codes_spread : (e : Encoding) (codes spread : List ℕ) → codes ≡ codes_for e values → length out ≡ n → length spread ≡ n
      → ((i : ℕ) → i < n → get_or spread i 0 ≡ (if row_at places (start + i) then get_or codes (rank places (start + i)) 0 else 0)) → spread ≡ codes_for e out
  codes_spread e codes spread are long len code =
      ext_get_or 0 spread (codes_for e out) (len ∙ sym long ∙ sym (length-map out (code_for e))) (λ i h.
      let low : i < n = omega (arith, h, len) in
      elim (cases_Bool (row_at places (start + i))) [
        | inl t ↦ rw (code i low, t, are, code_any e values (rank places (start + i)), code_any e out i, each i low, t) refl
        | inr t ↦ rw (code i low, t, code_any e out i, each i low, t) refl
      ])

  module _ (old : List (Option ℤ)) (rows : ℕ) (whole : len places ≡ length old) (bits : (i : ℕ) → bit_of rows i ≡ (nat_lt i n && row_at places (start + i))) where
    abbrev put_now : ℕ → Option ℤ
    put_now j = if is_chosen start rows j then value_at out (j - start) else value_at old j

    put_is : (k : ℕ) → k < length old → value_at (put_values old start rows out) k ≡ put_now k
    put_is k h = made_at (length old) put_now k None h

    left : (k : ℕ) → k < length old → is_chosen start rows k ≡ false → value_at (put_values old start rows out) k ≡ value_at old k
    left k h t = put_is k h ∙ rw t refl

    taken : (k : ℕ) → k < length old → is_chosen start rows k ≡ true → value_at (put_values old start rows out) k ≡ value_at out (k - start)
    taken k h t = put_is k h ∙ rw t refl

    bit_is : (i : ℕ) → i < n → bit_of rows i ≡ row_at places (start + i)
    bit_is i h = bits i ∙ rw (lt-ltb i n h) refl

    put_inside : (k : ℕ) → start ≤ k → k < start + n → value_at (put_values old start rows out) k ≡ put_at places values old k
    put_inside k from to =
        let i = k - start in
        let low : i < n = omega (arith, from, to) in
        let here : start + i ≡ k = omega (arith, from) in
        let there : k < length old = omega (arith, to, inside, whole) in
        let bit : is_chosen start rows k ≡ row_at places k = chosen_from start rows k from ∙ bit_is i low ∙ ap (row_at places) here in
        elim (cases_Bool (row_at places k)) [
          | inl t ↦
              let value = each i low in
              taken k there (bit ∙ t) ∙ (rw here at value) ∙ rw t refl
          | inr t ↦ left k there (bit ∙ t) ∙ rw t refl
        ]

    unchosen : (k : ℕ) → (start ≤ k → start + n ≤ k) → is_chosen start rows k ≡ false
    unchosen k out_of =
        elim (cases_lt k start) [
          | inl below ↦ chosen_below start rows k below
          | inr from ↦ chosen_from start rows k from ∙ bits (k - start) ∙ rw (le-ltb (k - start) n (omega (arith, out_of from))) refl
        ]

    put_outside : (k : ℕ) → (start ≤ k → start + n ≤ k) → value_at (put_values old start rows out) k ≡ value_at old k
    put_outside k out_of =
        elim (cases_lt k (length old)) [
          | inl there ↦ left k there (unchosen k out_of)
          | inr past ↦ get_or_past (put_values old start rows out) k None (omega (arith, past, made_len (length old) put_now)) ∙ sym (get_or_past old k None past)
        ]

    pub are_put : ArePutFrom places values start n (put_values old start rows out) old
    are_put = record { count = made_len (length old) put_now; inside = put_inside; outside = put_outside }
