-- Some rows of one group change, and one code in many rows.
use Rattle.std.proofs.Common.{Bool, Global, List, Vec, [], ap, arith, false, get_or, if◌then◌else◌, inl, inr, length, refl, set, sym, true, ℕ, ◌%◌, ◌*◌, ◌+◌, ◌-◌, ◌/◌, ◌<◌, ◌^◌, ◌≡◌, ◌≤◌, ◌∙◌}
use Rattle.std.proofs.Math.Nat.{mul-le-mul_right}
use Rattle.std.proofs.lemmas.Bool.{cases_lt}
use Rattle.std.proofs.lemmas.List.{get_or-set_same, get_or_past, length-set}
use Rattle.bw_mask.specs.Masks.{MaskRows, bit_of, len, row_at, row_in}
use Rattle.bw_code.specs.Units.{segments_of}
use Rattle.bw_code.proofs.Lists.{made_at}
use Rattle.bw_vertical.specs.Storage.{code_of, codes_of, is_set, lists, planes_in}
use Rattle.bw_vertical.proofs.Holding.{code_is, code_same}
use Rattle.bw_vertical.proofs.Segments.{row_in_group}

-- group g becomes u, in whose planes some rows are put
module _
    (k g m n : ℕ) (vs : List (Vec (List ℕ) Global)) (v u : Vec (List ℕ) Global) (within : g < length vs) (read : v ≡ get_or vs g v) (m_is : m ≡ planes_in k g)
    (rows : MaskRows) (long : len rows ≡ n) (bit : ℕ → ℕ → Bool)
    (put : (q i j : ℕ) → q < segments_of 256 n → i < k → i / 4 ≡ g → j < 256 → row_in (get_or u.items (q * m + i % 4) []) j
    ≡ (if row_at rows (256 * q + j) then bit i (256 * q + j) else row_in (get_or v.items (q * m + i % 4) []) j))
    (behind : (b : ℕ) → segments_of 256 n * m ≤ b → get_or u.items b [] ≡ get_or v.items b [])
  where
    abbrev after : List (Vec (List ℕ) Global)
    after = set vs g u

    within_after : g < length after
    within_after = omega (arith, within, length-set vs g u)

    read_after : u ≡ get_or after g u
    read_after = sym (get_or-set_same vs g u u within)

    -- row j of segment q
    in_segment : (q i j : ℕ) → i < k → i / 4 ≡ g → j < 256 → is_set k (lists after) i (256 * q + j) ≡ (if row_at rows (256 * q + j) then bit i (256 * q + j) else is_set k (lists vs) i (256 * q + j))
    in_segment q i j low group h =
        let now = row_in_group k q g m after u within_after read_after m_is i j group h in
        let before = row_in_group k q g m vs v within read m_is i j group h in
        elim (cases_lt q (segments_of 256 n)) [
          | inl l ↦ sym now ∙ put q i j l low group h ∙ ap (λ (z : Bool). if row_at rows (256 * q + j) then bit i (256 * q + j) else z) before
          | inr l ↦
              let past : row_at rows (256 * q + j) ≡ false = get_or_past rows.rows (256 * q + j) false (omega (arith, long, l)) in
              sym now ∙ ap (λ x. row_in x j) (behind (q * m + i % 4) (omega (arith, mul-le-mul_right m l))) ∙ before ∙ rw past refl
        ]

    pub rows_put : (i j : ℕ) → i < k → i / 4 ≡ g → is_set k (lists after) i j ≡ (if row_at rows j then bit i j else is_set k (lists vs) i j)
    rows_put i j low group = let here : 256 * (j / 256) + j % 256 ≡ j = omega arith in rw here at (in_segment (j / 256) i (j % 256) low group (omega arith))

module _ (k n code : ℕ) (small : code < 2 ^ k) (old new : List (List (List ℕ))) (rows : MaskRows)
    (each : (i j : ℕ) → i < k → is_set k new i j ≡ (if row_at rows j then bit_of code (k - 1 - i) else is_set k old i j)) where
  filled : (j : ℕ) → code_of k new j ≡ (if row_at rows j then code else code_of k old j)
  filled j = go (row_at rows j) (λ i h. each i j h)
    where
      go : (there : Bool) → ((i : ℕ) → i < k → is_set k new i j ≡ (if there then bit_of code (k - 1 - i) else is_set k old i j)) → code_of k new j ≡ (if there then code else code_of k old j)
      go true bits = code_is k j code new small bits
      go false bits = code_same k j new old bits

  -- past the last row nothing changes
  pub rest_unfilled : len rows ≡ n → (i j : ℕ) → i < k → n ≤ j → is_set k new i j ≡ is_set k old i j
  rest_unfilled long i j h l =
      let past : row_at rows j ≡ false = get_or_past rows.rows j false (omega (arith, long, l)) in
      each i j h ∙ rw past refl

  pub codes_filled : (j : ℕ) → j < n → get_or (codes_of k new n) j 0 ≡ (if row_at rows j then code else get_or (codes_of k old n) j 0)
  codes_filled j h =
      made_at n (code_of k new) j 0 h ∙ filled j
      ∙ ap (λ (x : ℕ). if row_at rows j then code else x) (sym (made_at n (code_of k old) j 0 h))
