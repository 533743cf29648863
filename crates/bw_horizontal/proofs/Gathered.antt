-- Rows gathered word by word.
use Rattle.std.proofs.Common.{Bool, ap, arith, bit_or, false, inl, inr, refl, subst, sym, true, ℕ, ◌%◌, ◌*◌, ◌+◌, ◌-◌, ◌/◌, ◌<◌, ◌^◌, ◌||◌, ◌≡◌, ◌≤◌, ◌∙◌}
use Rattle.std.proofs.lemmas.Bool.{cases_lt}
use Rattle.std.proofs.Math.Nat.{mod-lt}
use Rattle.bw_mask.specs.Masks.{bit_of, len, MaskRows, row_at}
use Rattle.bw_mask.proofs.Bits.{bit_above, bit_below_shl, bit_of_or, bit_of_shl, bit_of_zero}
use Rattle.bw_horizontal.specs.Gathering.{AreGathered}

-- no row yet
pub none_gathered : (mask : MaskRows) (wanted : ℕ → Bool) → AreGathered mask 0 0 wanted
none_gathered mask wanted = record {
  full = λ j h l. absurd (omega arith);
  begun = λ i h. absurd (omega arith);
  clean = λ i h. bit_of_zero i;
}

or_false : (b : Bool) → (b || false) ≡ b
or_false true = refl
or_false false = refl

module _ (mask : MaskRows) (at n rest rows : ℕ) (wanted : ℕ → Bool) (before : AreGathered mask at rest wanted) (clean : (i : ℕ) → n ≤ i → bit_of rows i ≡ false) (here : (i : ℕ) → i < n → bit_of rows i ≡ wanted (at + i)) where
  abbrev f : ℕ
  f = at % 64

  abbrev base : ℕ
  base = at / 64 * 64

  abbrev up : ℕ
  up = rows * 2 ^ f % 2 ^ 64

  abbrev pub word : ℕ
  word = bit_or rest up

  word_bit : (i : ℕ) → i < 64 → i < f + n → bit_of word i ≡ wanted (base + i)
  word_bit i low h =
      bit_of_or rest up i
      ∙ elim (cases_lt i f) [
        | inl l ↦ ap (λ b. bit_of rest i || b) (bit_below_shl rows f i l low) ∙ or_false (bit_of rest i) ∙ before.begun i l
        | inr l ↦
            ap (λ b. b || bit_of up i) (before.clean i l) ∙ bit_of_shl rows f i l low ∙ here (i - f) (omega arith) ∙ ap wanted (omega arith)
      ]

  pub kept_back : f + n < 64 → AreGathered mask (at + n) word wanted
  kept_back h =
      let same : (at + n) / 64 * 64 ≡ base = omega arith in
      let more : (at + n) % 64 ≡ f + n = omega arith in
      record {
        full = λ j l there. before.full j (omega (arith, l, same)) there;
        begun = λ i l. word_bit i (omega (arith, l, more)) (omega (arith, l, more)) ∙ ap (λ b. wanted (b + i)) (sym same);
        clean = λ i l.
            bit_of_or rest up i ∙ ap (λ b. b || bit_of up i) (before.clean i (omega (arith, l, more)))
            ∙ elim (cases_lt i 64) [
              | inl low ↦ bit_of_shl rows f i (omega (arith, l, more)) low ∙ clean (i - f) (omega (arith, l, more))
              | inr high ↦ bit_above up i (mod-lt _ (omega arith)) high
            ];
      }

  pub word_full : (new : MaskRows) (rest2 : ℕ) → 64 ≤ f + n → n ≤ 64 → len new ≡ len mask
      → ((i : ℕ) → i < 64 → 64 * (at / 64) + i < len mask → row_at new (64 * (at / 64) + i) ≡ bit_of word i) → ((j : ℕ) → (64 * (at / 64) ≤ j → 64 * (at / 64) + 64 ≤ j) → row_at new j ≡ row_at mask j)
      → ((i : ℕ) → bit_of rest2 i ≡ bit_of rows (64 - f + i)) → AreGathered new (at + n) rest2 wanted
  word_full new rest2 h most len_is inside outside over =
      let next : (at + n) / 64 * 64 ≡ base + 64 = omega arith in
      let more : (at + n) % 64 ≡ f + n - 64 = omega arith in
      record {
        full = λ j l there.
            elim (cases_lt j base) [
              | inl low ↦ outside j (λ g. absurd (omega (arith, g, low))) ∙ before.full j low (omega (arith, there, len_is))
              | inr high ↦
                  let place : base + (j - base) ≡ j = omega (arith, high) in
                  let word_place : 64 * (at / 64) + (j - base) ≡ j = omega (arith, high) in
                  let low : j - base < 64 = omega (arith, l, next, high) in
                  ap (row_at new) (sym word_place) ∙ inside (j - base) low (omega (arith, word_place, there, len_is)) ∙ word_bit (j - base) low (omega (arith, low, h)) ∙ ap wanted place
            ];
        begun = λ i l. over i ∙ here (64 - f + i) (omega (arith, l, more)) ∙ ap wanted (omega (arith, next));
        clean = λ i l. over i ∙ clean (64 - f + i) (omega (arith, l, more));
      }

-- all rows
pub all_put : (mask new : MaskRows) (at rest : ℕ) (wanted : ℕ → Bool) → AreGathered mask at rest wanted
    → ((i : ℕ) → i < at % 64 → at / 64 * 64 + i < len mask → row_at new (at / 64 * 64 + i) ≡ bit_of rest i) → ((j : ℕ) → (at / 64 * 64 ≤ j → at / 64 * 64 + at % 64 ≤ j) → row_at new j ≡ row_at mask j)
    → (j : ℕ) → j < at → j < len mask → row_at new j ≡ wanted j
all_put mask new at rest wanted before inside outside j low there =
    let base = at / 64 * 64 in
    elim (cases_lt j base) [
      | inl l ↦ outside j (λ g. absurd (omega (arith, g, l))) ∙ before.full j l there
      | inr l ↦
          let place : base + (j - base) ≡ j = omega (arith, l) in
          let within : j - base < at % 64 = omega (arith, l, low) in
          subst (λ m. row_at new m ≡ wanted m) place (inside (j - base) within (omega (arith, place, there)) ∙ before.begun (j - base) within)
    ]
