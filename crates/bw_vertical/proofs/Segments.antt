-- The planes of one segment change in one group.
use Rattle.std.proofs.Common.{Global, List, Vec, [], ap, arith, get_or, inl, inr, length, refl, set, subst, sym, ℕ, ◌%◌, ◌*◌, ◌+◌, ◌-◌, ◌/◌, ◌<◌, ◌∙◌, ◌≡◌, ◌≤◌, ◌⊎◌}
use mathlib.Core.Logic.{◌≢◌}
use Rattle.std.proofs.Math.Nat.{mul-le-mul_right}
use Rattle.std.proofs.lemmas.Bool.{cases_eq, cases_lt}
use Rattle.std.proofs.lemmas.List.{get_or-set_same, length-set}
use Rattle.bw_mask.specs.Masks.{bit_of, row_in}
use Rattle.bw_vertical.specs.Carries.{HoldBits, carried, lane_bit}
use Rattle.bw_vertical.specs.Storage.{HasSegment, code_of, is_set, lists, planes_in, word_of}
use Rattle.bw_vertical.proofs.Holding.{code_bit, plane_row}
use Rattle.bw_vertical.proofs.Placing.{elsewhere, group_is, in_its_group, word_in_group}

-- group g has m planes in segment q
module _ (k q g m : ℕ) (vs : List (Vec (List ℕ) Global)) (v : Vec (List ℕ) Global) (within : g < length vs) (read : v ≡ get_or vs g v) (m_is : m ≡ planes_in k g) where
  -- a row of one of them
  pub row_in_group : (i j : ℕ) → i / 4 ≡ g → j < 256 → row_in (get_or v.items (q * m + i % 4) []) j ≡ is_set k (lists vs) i (256 * q + j)
  row_in_group i j group h =
      ap (λ n. row_in (get_or v.items (q * n + i % 4) []) j) m_is
      ∙ ap (λ xs. row_in (get_or xs (q * planes_in k g + i % 4) []) j) (sym (group_is vs g v within read))
      ∙ ap (λ p. row_in (get_or (get_or (lists vs) p []) (q * planes_in k p + i % 4) []) j) (sym group)
      ∙ plane_row k q i j (lists vs) h

  -- they lie within the group
  pub fits_group : (old : List (List (List ℕ))) → HasSegment k old q → 4 * g < k → length (get_or (lists vs) g []) ≡ length (get_or old g []) → q * m + m ≤ length v.items
  fits_group old there some size =
      let room : (q + 1) * m ≤ length (get_or old g []) = subst (λ n. (q + 1) * n ≤ length (get_or old g [])) (sym m_is) (there g some) in
      omega (arith, room, size, ap (λ (xs : List (List ℕ)). length xs) (group_is vs g v within read))

  -- the bits of a number in its planes, by the places in the group and by the planes
  pub bits_held : (j x : ℕ) → j < 256 → ((i : ℕ) → i < k → i / 4 ≡ g → is_set k (lists vs) i (256 * q + j) ≡ bit_of x (k - 1 - i)) → HoldBits v.items (q * m) m (k - 1 - 4 * g) j x
  bits_held j x h each p l =
      let i = 4 * g + p in
      let low : i < k = omega (arith, l, m_is) in
      let group : i / 4 ≡ g = omega (arith, l, m_is) in
      let place : i % 4 ≡ p = omega (arith, l, m_is) in
      let bit : k - 1 - i ≡ k - 1 - 4 * g - p = omega arith in
      ap (λ n. row_in (get_or v.items (q * m + n) []) j) (sym place) ∙ row_in_group i j group h ∙ each i low group ∙ ap (bit_of x) bit

  pub bits_told : (j x : ℕ) → j < 256 → HoldBits v.items (q * m) m (k - 1 - 4 * g) j x → (i : ℕ) → i < k → i / 4 ≡ g → is_set k (lists vs) i (256 * q + j) ≡ bit_of x (k - 1 - i)
  bits_told j x h held i low group =
      let column : i % 4 < m = omega (arith, low, group, m_is) in
      let bit : k - 1 - 4 * g - i % 4 ≡ k - 1 - i = omega (arith, group) in
      sym (row_in_group i j group h) ∙ held (i % 4) column ∙ ap (bit_of x) bit

-- group g becomes u, which differs only in segment q
module _
    (k q g m : ℕ) (vs : List (Vec (List ℕ) Global)) (v u : Vec (List ℕ) Global)
    (within : g < length vs) (read : v ≡ get_or vs g v) (m_is : m ≡ planes_in k g)
    (before : (b : ℕ) → b < q * m → get_or u.items b [] ≡ get_or v.items b [])
    (behind : (b : ℕ) → q * m + m ≤ b → get_or u.items b [] ≡ get_or v.items b [])
  where
    abbrev after : List (Vec (List ℕ) Global)
    after = set vs g u

    within_after : g < length after
    within_after = omega (arith, within, length-set vs g u)

    read_after : u ≡ get_or after g u
    read_after = sym (get_or-set_same vs g u u within)

    pub words_elsewhere : (i x : ℕ) → i < k → (i / 4 ≢ g) ⊎ (x / 4 ≢ q) → word_of k (lists after) i x ≡ word_of k (lists vs) i x
    words_elsewhere i x low away =
        elim (cases_eq (i / 4) g) [
          | inl e ↦
              let d : x / 4 ≢ q = elim away [ inl f ↦ absurd (f e) | inr f ↦ f ] in
              let column : i % 4 < m = rw m_is (subst (λ h. i % 4 < planes_in k h) e (in_its_group k i low)) in
              let same : get_or u.items (x / 4 * m + i % 4) [] ≡ get_or v.items (x / 4 * m + i % 4) [] =
              elim (cases_lt (x / 4) q) [
                | inl l ↦
                    let above : x / 4 + 1 ≤ q = omega (arith, l) in
                    before (x / 4 * m + i % 4) (omega (arith, column, mul-le-mul_right m above))
                | inr l ↦
                    let above : q + 1 ≤ x / 4 = omega (arith, l, d) in
                    behind (x / 4 * m + i % 4) (omega (arith, mul-le-mul_right m above))
              ] in
              sym (word_in_group k i x g m (i % 4) after u within_after read_after e m_is refl)
              ∙ ap (λ plane. get_or plane (x % 4) 0) same
              ∙ word_in_group k i x g m (i % 4) vs v within read e m_is refl
          | inr d ↦ ap (λ xs. get_or (get_or xs (x / 4 * planes_in k (i / 4) + i % 4) []) (x % 4) 0) (elsewhere vs g v u within read (i / 4) d)
        ]

    -- numbers y are added to the codes: the planes of group g hold the bits of the sums, if the carry from the groups behind is right
    module _
        (y : ℕ → ℕ) (old : List (List (List ℕ))) (carry next : List ℕ)
        (sums : (j x : ℕ) → j < 256 → HoldBits v.items (q * m) m (k - 1 - 4 * g) j x → lane_bit carry j ≡ carried x (y j) (k - 1 - 4 * g + 1 - m)
        → HoldBits u.items (q * m) m (k - 1 - 4 * g) j (x + y j))
        (carries : (j x : ℕ) → j < 256 → HoldBits v.items (q * m) m (k - 1 - 4 * g) j x → lane_bit carry j ≡ carried x (y j) (k - 1 - 4 * g + 1 - m)
        → lane_bit next j ≡ carried x (y j) (k - 1 - 4 * g + 1))
        (same : (i w : ℕ) → i < k → i / 4 ≡ g → word_of k (lists vs) i w ≡ word_of k old i w)
        (carry_is : (j : ℕ) → j < 256 → lane_bit carry j ≡ carried (code_of k old (256 * q + j)) (y j) (k - 1 - 4 * g + 1 - m))
      where
        codes_held : (j : ℕ) → j < 256 → HoldBits v.items (q * m) m (k - 1 - 4 * g) j (code_of k old (256 * q + j))
        codes_held j h =
            bits_held k q g m vs v within read m_is j (code_of k old (256 * q + j)) h (λ i low group.
            ap (λ w. bit_of w ((256 * q + j) % 64)) (same i ((256 * q + j) / 64) low group) ∙ sym (code_bit k i (256 * q + j) old low))

        pub bits_added : (i j : ℕ) → i < k → i / 4 ≡ g → j < 256 → is_set k (lists after) i (256 * q + j) ≡ bit_of (code_of k old (256 * q + j) + y j) (k - 1 - i)
        bits_added i j low group h =
            let x = code_of k old (256 * q + j) in
            bits_told k q g m after u within_after read_after m_is j (x + y j) h (sums j x h (codes_held j h) (carry_is j h)) i low group

        pub carry_on : (j : ℕ) → j < 256 → lane_bit next j ≡ carried (code_of k old (256 * q + j)) (y j) (k - 1 - 4 * g + 1)
        carry_on j h = carries j (code_of k old (256 * q + j)) h (codes_held j h) (carry_is j h)
