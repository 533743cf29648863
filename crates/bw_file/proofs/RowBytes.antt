-- Bits of rows that lie eight to a byte.
use Rattle.std.proofs.Common.{Bool, List, refl, ap, arith, bit_and, bit_or, drop, false, get_or, get_or-set_other, get_or-set_same, inl, inr, length, not, replicate, set, subst, sym, take, true, ℕ, ◌%◌, ◌&&◌, ◌*◌, ◌+◌, ◌++◌, ◌-◌, ◌/◌, ◌<◌, ◌≡◌, ◌≢◌, ◌≤◌, ◌∙◌}
use Rattle.std.proofs.Math.ListN.{get_or-eq_default}
use Rattle.std.proofs.lemmas.Bool.{cases_eq, cases_lt}
use Rattle.std.proofs.lemmas.List.{get_or-append-add, get_or-drop, get_or-take, get_or_append_left, length-drop, length-replicate, length-take}
use Rattle.std.proofs.lemmas.Simd.{get_or-replicate}
use Rattle.std.proofs.lemmas.Nat.{and_le_r}
use Rattle.bw_mask.specs.Masks.{bit_of}
use Rattle.bw_mask.proofs.Bits.{bit_of_and, bit_of_zero}
use Rattle.bw_vertical.proofs.Descending.{some_bit}
use Rattle.bw_file.specs.Descents.{bit_at_row}
use Rattle.bw_file.proofs.StrayBits.{or_none, stray_bit}

pub past_row : (n : ℕ) (bytes : List ℕ) → length bytes ≡ n → (r : ℕ) → n ≤ r / 8 → bit_at_row bytes r ≡ false
past_row n bytes long r past = ap (λ w. bit_of w (r % 8)) (get_or-eq_default bytes 0 (omega (arith, past, long))) ∙ bit_of_zero (r % 8)

-- whether a byte so far is not 0, one byte more
module _ (f : ℕ → ℕ) (j any : ℕ) where
  pub none_next : (any ≡ 0 → (i : ℕ) → i < j → f i ≡ 0) → bit_or any (f j) ≡ 0 → (i : ℕ) → i < j + 1 → f i ≡ 0
  none_next so_far e i h =
      elim (cases_eq i j) [
        | inl same ↦ ap f same ∙ (or_none any (f j) e).1
        | inr other ↦ so_far (or_none any (f j) e).0 i (omega (arith, h, other))
      ]

  pub some_next : (any ≢ 0 → (i : ℕ) × (i < j) × (f i ≢ 0)) → bit_or any (f j) ≢ 0 → (i : ℕ) × (i < j + 1) × (f i ≢ 0)
  some_next so_far e =
      elim (cases_eq (f j) 0) [
        | inl none ↦
            let before : (i : ℕ) × (i < j) × (f i ≢ 0) = so_far (λ z. e (ap (λ a. bit_or a (f j)) z ∙ ap (bit_or 0) none)) in
            (before.0, omega (arith, before.1), before.2)
        | inr some ↦ (j, omega arith, some)
      ]

-- bytes that are changed in place, one byte more
module _ (f : ℕ → ℕ → ℕ) (first rows : List ℕ) (j : ℕ) (there : j < length rows) (rest : (i : ℕ) → j ≤ i → get_or rows i 0 ≡ get_or first i 0) where
  pub changed_next : ((i : ℕ) → i < j → get_or rows i 0 ≡ f i (get_or first i 0)) → (i : ℕ) → i < j + 1 → get_or (set rows j (f j (get_or rows j 0))) i 0 ≡ f i (get_or first i 0)
  changed_next so_far i h =
      elim (cases_eq i j) [
        | inl same ↦
            ap (λ n. get_or (set rows j (f j (get_or rows j 0))) n 0) same ∙ get_or-set_same rows j (f j (get_or rows j 0)) 0 there ∙ ap (f j) (rest j (omega arith)) ∙ ap (λ n. f n (get_or first n 0)) (sym same)
        | inr other ↦ get_or-set_other rows j i (f j (get_or rows j 0)) 0 other ∙ so_far i (omega (arith, h, other))
      ]

  pub rest_next : (i : ℕ) → j + 1 ≤ i → get_or (set rows j (f j (get_or rows j 0))) i 0 ≡ get_or first i 0
  rest_next i h = let other : i ≢ j = λ same. omega (arith, h, same) in get_or-set_other rows j i (f j (get_or rows j 0)) 0 other ∙ rest i (omega (arith, h))

-- a byte that is not 0 has a bit, which is that of a row
bit_in : (w j : ℕ) → w < 256 → w ≢ 0 → (r : ℕ) × (r / 8 ≡ j) × (bit_of w (r % 8) ≡ true)
bit_in w j small some =
    let bit = some_bit 8 w small some in
    let byte : (8 * j + bit.0) / 8 ≡ j = omega (arith, bit.1) in
    let place : (8 * j + bit.0) % 8 ≡ bit.0 = omega (arith, bit.1) in
    (8 * j + bit.0, byte, ap (bit_of w) place ∙ bit.2)

none_of : (b : Bool) → (b && false) ≡ false
none_of true = refl
none_of false = refl

module _ (rows plane : List ℕ) (n : ℕ) (long : length plane ≡ n) where
  with_bit : (r : ℕ) → bit_of (bit_and (get_or rows (r / 8) 0) (get_or plane (r / 8) 0)) (r % 8) ≡ (bit_at_row rows r && bit_at_row plane r)
  with_bit r = bit_of_and (get_or rows (r / 8) 0) (get_or plane (r / 8) 0) (r % 8)

  pub none_with : ((j : ℕ) → j < n → bit_and (get_or rows j 0) (get_or plane j 0) ≡ 0) → (r : ℕ) → (bit_at_row rows r && bit_at_row plane r) ≡ false
  none_with each r =
      elim (cases_lt (r / 8) n) [
        | inl here ↦ sym (with_bit r) ∙ ap (λ w. bit_of w (r % 8)) (each (r / 8) here) ∙ bit_of_zero (r % 8)
        | inr past ↦ ap (λ b. bit_at_row rows r && b) (past_row n plane long r past) ∙ none_of (bit_at_row rows r)
      ]

  pub some_with : (j : ℕ) → get_or plane j 0 < 256 → bit_and (get_or rows j 0) (get_or plane j 0) ≢ 0 → (r : ℕ) × ((bit_at_row rows r && bit_at_row plane r) ≡ true)
  some_with j small some =
      let at = bit_in (bit_and (get_or rows j 0) (get_or plane j 0)) j (omega (arith, small, and_le_r (get_or rows j 0) (get_or plane j 0))) some in
      (at.0, sym (with_bit at.0) ∙ ap (λ i. bit_of (bit_and (get_or rows i 0) (get_or plane i 0)) (at.0 % 8)) at.1 ∙ at.2)

  module _ (within : (r : ℕ) → n ≤ r / 8 → bit_at_row rows r ≡ false) where
    -- bytes of which the first are changed, and the others are those of no row
    others : (left : List ℕ) (b : ℕ → Bool) → ((j : ℕ) → n ≤ j → get_or left j 0 ≡ get_or rows j 0) → (r : ℕ) → n ≤ r / 8 → bit_at_row left r ≡ (bit_at_row rows r && b r)
    others left b rest r past = ap (λ w. bit_of w (r % 8)) (rest (r / 8) past) ∙ within r past ∙ sym (ap (λ a. a && b r) (within r past))

    pub rows_with : (left : List ℕ) → ((j : ℕ) → j < n → get_or left j 0 ≡ bit_and (get_or rows j 0) (get_or plane j 0)) → ((j : ℕ) → n ≤ j → get_or left j 0 ≡ get_or rows j 0)
        → (r : ℕ) → bit_at_row left r ≡ (bit_at_row rows r && bit_at_row plane r)
    rows_with left each rest r =
        elim (cases_lt (r / 8) n) [
          | inl here ↦ ap (λ w. bit_of w (r % 8)) (each (r / 8) here) ∙ with_bit r
          | inr past ↦ others left (bit_at_row plane) rest r past
        ]

    module _ (small : (j : ℕ) → get_or plane j 0 < 256) where
      without_bit : (r : ℕ) → bit_of (bit_and (get_or rows (r / 8) 0) (255 - get_or plane (r / 8) 0)) (r % 8) ≡ (bit_at_row rows r && not (bit_at_row plane r))
      without_bit r = stray_bit (get_or rows (r / 8) 0) (get_or plane (r / 8) 0) (r % 8) (small (r / 8)) (omega arith)

      pub none_without : ((j : ℕ) → j < n → bit_and (get_or rows j 0) (255 - get_or plane j 0) ≡ 0) → (r : ℕ) → (bit_at_row rows r && not (bit_at_row plane r)) ≡ false
      none_without each r =
          elim (cases_lt (r / 8) n) [
            | inl here ↦ sym (without_bit r) ∙ ap (λ w. bit_of w (r % 8)) (each (r / 8) here) ∙ bit_of_zero (r % 8)
            | inr past ↦ ap (λ b. b && not (bit_at_row plane r)) (within r past)
          ]

      pub some_without : (j : ℕ) → bit_and (get_or rows j 0) (255 - get_or plane j 0) ≢ 0 → (r : ℕ) × ((bit_at_row rows r && not (bit_at_row plane r)) ≡ true)
      some_without j some =
          let at = bit_in (bit_and (get_or rows j 0) (255 - get_or plane j 0)) j (omega (arith, and_le_r (get_or rows j 0) (255 - get_or plane j 0))) some in
          (at.0, sym (without_bit at.0) ∙ ap (λ i. bit_of (bit_and (get_or rows i 0) (255 - get_or plane i 0)) (at.0 % 8)) at.1 ∙ at.2)

      pub rows_without : (left : List ℕ) → ((j : ℕ) → j < n → get_or left j 0 ≡ bit_and (get_or rows j 0) (255 - get_or plane j 0)) → ((j : ℕ) → n ≤ j → get_or left j 0 ≡ get_or rows j 0)
          → (r : ℕ) → bit_at_row left r ≡ (bit_at_row rows r && not (bit_at_row plane r))
      rows_without left each rest r =
          elim (cases_lt (r / 8) n) [
            | inl here ↦ ap (λ w. bit_of w (r % 8)) (each (r / 8) here) ∙ without_bit r
            | inr past ↦ others left (λ r. not (bit_at_row plane r)) rest r past
          ]

-- some bytes with zeros after them
zero_at : (n j : ℕ) → get_or (replicate {A = ℕ} n 0) j 0 ≡ 0
zero_at n j =
    elim (cases_lt j n) [
      | inl low ↦ get_or-replicate n j 0 0 low
      | inr high ↦ (let past : length (replicate {A = ℕ} n 0) ≤ j = omega (arith, length-replicate {A = ℕ} n 0, high) in get_or-eq_default (replicate {A = ℕ} n 0) 0 past)
    ]

-- bytes that are cut out of others
pub cut_bits : (bytes : List ℕ) (from n m : ℕ) → n ≤ m → (r : ℕ) → r / 8 < n → bit_at_row (take m (drop from bytes)) r ≡ bit_at_row bytes (8 * from + r)
cut_bits bytes from n m most r h =
    let byte : from + r / 8 ≡ (8 * from + r) / 8 = omega arith in
    let place : r % 8 ≡ (8 * from + r) % 8 = omega arith in
    ap (λ w. bit_of w (r % 8)) (get_or-take m (drop from bytes) (r / 8) 0 (omega (arith, h, most)) ∙ get_or-drop from bytes (r / 8) 0)
    ∙ ap (λ j. bit_of (get_or bytes j 0) (r % 8)) byte ∙ ap (bit_of (get_or bytes ((8 * from + r) / 8) 0)) place

pub padded_bits : (part rest bytes : List ℕ) (from n m : ℕ) → part ≡ take m (drop from bytes) → n ≤ m → from + n ≤ length bytes → (r : ℕ) → r / 8 < n → bit_at_row (part ++ rest) r ≡ bit_at_row bytes (8 * from + r)
padded_bits part rest bytes from n m is most inside r h =
    let long : r / 8 < length part = subst (λ xs. r / 8 < length xs) (sym is) (omega (arith, h, most, inside, length-take m (drop from bytes), length-drop from bytes)) in
    ap (λ w. bit_of w (r % 8)) (get_or_append_left part rest 0 (r / 8) long ∙ ap (λ xs. get_or xs (r / 8) 0) is) ∙ cut_bits bytes from n m most r h

pub padded_rest : (part : List ℕ) (n size : ℕ) → length part ≡ n → (r : ℕ) → n ≤ r / 8 → bit_at_row (part ++ drop n (replicate size 0)) r ≡ false
padded_rest part n size long r h =
    let rest : List ℕ = drop n (replicate size 0) in
    let place : length part + (r / 8 - n) ≡ r / 8 = omega (arith, h, long) in
    ap (λ j. bit_of (get_or (part ++ rest) j 0) (r % 8)) (sym place)
    ∙ ap (λ w. bit_of w (r % 8)) (get_or-append-add part rest (r / 8 - n) 0 ∙ get_or-drop n (replicate size 0) (r / 8 - n) 0 ∙ zero_at size (n + (r / 8 - n))) ∙ bit_of_zero (r % 8)
