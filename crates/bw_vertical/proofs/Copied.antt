-- One plane of one segment changes, and codes copied from other planes.
use Rattle.std.proofs.Common.{Bool, Global, List, Vec, [], ap, arith, false, get_or, inl, inr, length, pos, refl, set, subst, sym, true, ℕ, ℤ, ◌%◌, ◌*◌, ◌+◌, ◌-◌, ◌/◌, ◌<◌, ◌^◌, ◌∙◌, ◌≡◌, ◌≤◌, ◌⊎◌}
use mathlib.Core.Logic.{◌≢◌}
use Rattle.std.specs.Prelude.{if◌then◌else◌}
use Rattle.std.proofs.Math.Pow.{pow_mono}
use Rattle.std.proofs.lemmas.Bool.{cases_eq}
use Rattle.std.proofs.lemmas.List.{get_or-set_same, get_or_past, length-set}
use Rattle.bw_mask.specs.Masks.{MaskRows, bit_of, len, row_at, row_in}
use Rattle.bw_code.specs.Shifts.{IsWord, StaysBelow, shifted}
use Rattle.bw_code.proofs.Lists.{made_at}
use Rattle.bw_vertical.specs.Storage.{HasSegment, code_of, codes_of, is_set, lists, planes_in, word_of}
use Rattle.bw_vertical.proofs.Holding.{code_is, code_lt, code_same}
use Rattle.bw_vertical.proofs.Placing.{column_is, elsewhere, group_is, in_its_group, row_is, word_in_group}
use Rattle.bw_vertical.proofs.Segments.{row_in_group}
use Rattle.bw_vertical.proofs.Shifted.{new_code}

module _
    (k q i m : ℕ) (vs : List (Vec (List ℕ) Global)) (v : Vec (List ℕ) Global)
    (low : i < k) (within : i / 4 < length vs) (read : v ≡ get_or vs (i / 4) v) (m_is : m ≡ planes_in k (i / 4))
  where
    -- the plane has its place in the group
    pub place_within : HasSegment k (lists vs) q → q * m + i % 4 < length v.items
    place_within there =
        let column : i % 4 < m = rw m_is (in_its_group k i low) in
        let room : (q + 1) * m ≤ length (get_or (lists vs) (i / 4) []) = subst (λ n. (q + 1) * n ≤ length (get_or (lists vs) (i / 4) [])) (sym m_is) (there (i / 4) (omega (arith, low))) in
        omega (arith, column, room, ap (λ (xs : List (List ℕ)). length xs) (group_is vs (i / 4) v within read))

    -- its group becomes u
    module _ (u : Vec (List ℕ) Global) (planes : (b : ℕ) → b ≢ q * m + i % 4 → get_or u.items b [] ≡ get_or v.items b []) where
      abbrev after : List (Vec (List ℕ) Global)
      after = set vs (i / 4) u

      within_after : i / 4 < length after
      within_after = omega (arith, within, length-set vs (i / 4) u)

      read_after : u ≡ get_or after (i / 4) u
      read_after = sym (get_or-set_same vs (i / 4) u u within)

      pub row_now : (j : ℕ) → j < 256 → is_set k (lists after) i (256 * q + j) ≡ row_in (get_or u.items (q * m + i % 4) []) j
      row_now j h = sym (row_in_group k q (i / 4) m after u within_after read_after m_is i j refl h)

      pub other_planes : (p w : ℕ) → p < k → (p ≢ i) ⊎ (w / 4 ≢ q) → word_of k (lists after) p w ≡ word_of k (lists vs) p w
      other_planes p w inside away =
          elim (cases_eq (p / 4) (i / 4)) [
            | inl e ↦
                let column : i % 4 < m = rw m_is (in_its_group k i low) in
                let also : p % 4 < m = rw m_is (subst (λ g. p % 4 < planes_in k g) e (in_its_group k p inside)) in
                let place : w / 4 * m + p % 4 ≢ q * m + i % 4 = λ f.
                elim away [
                  | inl d ↦ d (omega (arith, e, column_is (w / 4) q m (p % 4) (i % 4) also column f))
                  | inr d ↦ d (row_is (w / 4) q m (p % 4) (i % 4) also column f)
                ] in
                sym (word_in_group k p w (i / 4) m (p % 4) after u within_after read_after e m_is refl)
                ∙ ap (λ x. get_or x (w % 4) 0) (planes (w / 4 * m + p % 4) place)
                ∙ word_in_group k p w (i / 4) m (p % 4) vs v within read e m_is refl
            | inr d ↦ ap (λ g. get_or (get_or g (w / 4 * planes_in k (p / 4) + p % 4) []) (w % 4) 0) (elsewhere vs (i / 4) v u within read (p / 4) d)
          ]

    -- a row of it before
    pub row_before : (j : ℕ) → j < 256 → row_in (get_or v.items (q * m + i % 4) []) j ≡ is_set k (lists vs) i (256 * q + j)
    row_before j h = row_in_group k q (i / 4) m vs v within read m_is i j refl h

-- the codes of some rows become those of other planes, to which a word is added in the moved rows
module _ (k own n : ℕ) (by : ℤ) (word : ℕ) (narrow : k ≤ 64) (own_narrow : own ≤ 64) (is_word : IsWord by word) (old new others : List (List (List ℕ))) (rows moved : MaskRows)
    (each : (i j : ℕ) → i < k → is_set k new i j ≡ (if row_at rows j then bit_of (code_of own others j + (if row_at moved j then word else 0)) (k - 1 - i) else is_set k old i j)) where
  picked : (j : ℕ) (there : Bool) → StaysBelow (2 ^ k) (shifted by (row_at moved j) (code_of own others j))
      → ((i : ℕ) → i < k → is_set k new i j ≡ (if there then bit_of (code_of own others j + (if row_at moved j then word else 0)) (k - 1 - i) else is_set k old i j))
      → pos (code_of k new j) ≡ (if there then shifted by (row_at moved j) (code_of own others j) else pos (code_of k old j))
  picked j true fits bits =
      let small : code_of own others j < 2 ^ 64 = omega (arith, code_lt own others j, pow_mono {i = own} {j = 64} own_narrow) in
      let c = new_code k by word narrow is_word (row_at moved j) (code_of own others j) small fits in
      ap pos (code_is k j c.0 new c.1.0 (λ i h. bits i h ∙ c.1.2 (k - 1 - i) (omega (arith, narrow)))) ∙ c.1.1
  picked j false fits bits = ap pos (code_same k j new old bits)

  -- past the last row nothing changes
  pub rest_kept : len rows ≡ n → (i j : ℕ) → i < k → n ≤ j → is_set k new i j ≡ is_set k old i j
  rest_kept long i j h l =
      let past : row_at rows j ≡ false = get_or_past rows.rows j false (omega (arith, long, l)) in
      each i j h ∙ rw past refl

  pub codes_copied : (j : ℕ) → j < n → StaysBelow (2 ^ k) (shifted by (row_at moved j) (get_or (codes_of own others n) j 0))
      → pos (get_or (codes_of k new n) j 0) ≡ (if row_at rows j then shifted by (row_at moved j) (get_or (codes_of own others n) j 0) else pos (get_or (codes_of k old n) j 0))
  codes_copied j h fits =
      let other = made_at n (code_of own others) j 0 h in
      ap pos (made_at n (code_of k new) j 0 h)
      ∙ picked j (row_at rows j) (subst (λ x. StaysBelow (2 ^ k) (shifted by (row_at moved j) x)) other fits) (λ i l. each i j l)
      ∙ ap (λ x. if row_at rows j then shifted by (row_at moved j) x else pos (code_of k old j)) (sym other)
      ∙ ap (λ x. if row_at rows j then shifted by (row_at moved j) (get_or (codes_of own others n) j 0) else pos x) (sym (made_at n (code_of k old) j 0 h))
