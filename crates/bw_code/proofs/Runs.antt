-- Codes put at some of 64 rows.
use Rattle.std.proofs.Common.{List, ap, arith, drop, false, get_or, if◌then◌else◌, inl, inr, length, min, pow_pos, refl, sym, take, true, ℕ, ◌+◌, ◌-◌, ◌%◌, ◌&&◌, ◌⊎◌, Bool, nat_lt, ◌<◌, ◌^◌, ◌≡◌, ◌≤◌, ◌∙◌}
use Rattle.std.proofs.lemmas.Bool.{both_ways, cases_Bool, cases_lt, le-leb, le-ltb, lt-leb, lt-ltb}
use Rattle.std.proofs.lemmas.List.{get_or-drop, get_or-take, get_or_past}
use borrow.Rule.Slice.PartMut.{put_mid}
use Rattle.bw_mask.specs.Masks.{bit_of}
use Rattle.bw_code.specs.Columns.{ArePlain, AreWide, Fit, is_chosen}
use Rattle.bw_code.specs.Lists.{made}
use Rattle.bw_code.proofs.Lists.{made_at, made_is, made_len}
use Rattle.bw_code.proofs.Parts.{before_part, behind_part, in_part, part_length}

pub chosen_below : (at rows j : ℕ) → j < at → is_chosen at rows j ≡ false
chosen_below at rows j h = rw (lt-leb at j h) refl

pub chosen_from : (at rows j : ℕ) → at ≤ j → is_chosen at rows j ≡ bit_of rows (j - at)
chosen_from at rows j h = rw (le-leb at j h) refl

pub chosen_above : (at rows j : ℕ) → is_chosen at rows j ≡ true → at ≤ j
chosen_above at rows j e =
    elim (cases_lt j at) [
      | inl h ↦ absurd (both_ways (is_chosen at rows j) (chosen_below at rows j h) e)
      | inr h ↦ h
    ]

-- a word of the bits of n rows from `at` on
module _ (at n bits : ℕ) (row : ℕ → Bool) (is : (k : ℕ) → bit_of bits k ≡ (nat_lt k n && row (at + k))) where
  pub chosen_row : (j : ℕ) → at ≤ j → j < at + n → is_chosen at bits j ≡ row j
  chosen_row j h l =
      let here : at + (j - at) ≡ j = omega (arith, h) in
      let low : j - at < n = omega (arith, h, l) in
      chosen_from at bits j h ∙ is (j - at) ∙ rw (lt-ltb (j - at) n low, here) refl

  pub chosen_past : (j : ℕ) → at + n ≤ j → is_chosen at bits j ≡ false
  chosen_past j h =
      let past : n ≤ j - at = omega (arith, h) in
      let from : at ≤ j = omega (arith, h) in
      chosen_from at bits j from ∙ is (j - at) ∙ rw (le-ltb (j - at) n past) refl

-- a run of rows ends at a word's end, or at the last row
pub next_word : (end at n : ℕ) → (at % 64 ≡ 0) ⊎ (end ≤ at) → at < end → n ≡ min (end - at) 64 → ((at + n) % 64 ≡ 0) ⊎ (end ≤ at + n)
next_word end at n word more is =
    elim word [
      | inl whole ↦
          elim (cases_lt n 64) [
            | inl short ↦ inr (omega (arith, short, is))
            | inr full ↦ inl (omega (arith, full, is, whole))
          ]
      | inr past ↦ absurd (omega (arith, past, more))
    ]

-- the codes of a block of n rows from `at` on are put where a row is chosen
module _ (old block new : List ℕ) (at n bits : ℕ) (row : ℕ → Bool) (source : ℕ → ℕ)
    (is : (k : ℕ) → bit_of bits k ≡ (nat_lt k n && row (at + k)))
    (inside : at + n ≤ length old)
    (each : (k : ℕ) → k < n → get_or block k 0 ≡ source (at + k))
    (put : new ≡ made (length old) (λ j. if is_chosen at bits j then get_or block (j - at) 0 else get_or old j 0)) where
  put_at : (j : ℕ) → j < length old → get_or new j 0 ≡ (if is_chosen at bits j then get_or block (j - at) 0 else get_or old j 0)
  put_at j h = ap (λ codes. get_or codes j 0) put ∙ made_at (length old) (λ m. if is_chosen at bits m then get_or block (m - at) 0 else get_or old m 0) j 0 h

  pub block_long : length new ≡ length old
  block_long = ap length put ∙ made_len (length old) (λ m. if is_chosen at bits m then get_or block (m - at) 0 else get_or old m 0)

  pub block_before : (j : ℕ) → j < at → get_or new j 0 ≡ get_or old j 0
  block_before j h = put_at j (omega (arith, h, inside)) ∙ rw (chosen_below at bits j h) refl

  pub block_here : (j : ℕ) → at ≤ j → j < at + n → get_or new j 0 ≡ (if row j then source j else get_or old j 0)
  block_here j h l =
      let here : at + (j - at) ≡ j = omega (arith, h) in
      let own : get_or block (j - at) 0 ≡ source j = each (j - at) (omega (arith, h, l)) ∙ ap source here in
      put_at j (omega (arith, l, inside)) ∙ rw (chosen_row at n bits row is j h l, own) refl

  pub block_past : (j : ℕ) → at + n ≤ j → j < length old → get_or new j 0 ≡ get_or old j 0
  block_past j h there = put_at j there ∙ rw (chosen_past at n bits row is j h) refl

pub fit_at : (w : ℕ) (codes : List ℕ) → Fit w codes → (i : ℕ) → get_or codes i 0 < 2 ^ w
fit_at w codes fit i =
    elim (cases_lt i (length codes)) [
      | inl h ↦ fit i 0 h
      | inr h ↦ rw (get_or_past codes i 0 h) (pow_pos w)
    ]

-- row j takes f j where it is chosen
module _ (old : List ℕ) (at rows : ℕ) (f : ℕ → ℕ) where
  abbrev pub put_to : ℕ → ℕ
  put_to j = if is_chosen at rows j then f j else get_or old j 0

  pub put_left : (j : ℕ) → is_chosen at rows j ≡ false → put_to j ≡ get_or old j 0
  put_left j out = rw out refl

  pub put_here : (j : ℕ) → is_chosen at rows j ≡ true → put_to j ≡ f j
  put_here j in_ = rw in_ refl

  pub run_is : (new : List ℕ) → length new ≡ length old → ((j : ℕ) → j < length old → get_or new j 0 ≡ put_to j) → new ≡ made (length old) put_to
  run_is new len each = made_is (length old) put_to new 0 len each

  -- a part of the codes is overwritten, and no row after it is chosen
  module _ (n : ℕ) (part : List ℕ) (fits : at + n ≤ length old) (long : length part ≡ n)
      (each : (i : ℕ) → i < n → get_or part i 0 ≡ (if bit_of rows i then f (at + i) else get_or (take n (drop at old)) i 0))
      (none : (i : ℕ) → n ≤ i → at + i < length old → bit_of rows i ≡ false) where
    inside : (j : ℕ) → at ≤ j → j < at + n → get_or part (j - at) 0 ≡ put_to j
    inside j h l =
        let here : at + (j - at) ≡ j = omega (arith, h) in
        let low : j - at < n = omega (arith, h, l) in
        let own : get_or (take n (drop at old)) (j - at) 0 ≡ get_or old j 0 = get_or-take n (drop at old) (j - at) 0 low ∙ get_or-drop at old (j - at) 0 ∙ ap (λ m. get_or old m 0) here in
        each (j - at) low ∙ rw (chosen_from at rows j h, here, own) refl

    pub part_put : put_mid at n old part ≡ made (length old) put_to
    part_put =
        run_is (put_mid at n old part) (part_length at n old part 0 fits long) (λ j h.
        elim (cases_lt j at) [
          | inl below ↦ before_part at n old part 0 fits long j below ∙ sym (put_left j (chosen_below at rows j below))
          | inr from ↦
              elim (cases_lt j (at + n)) [
                | inl l ↦ in_part at n old part 0 fits long j from l ∙ inside j from l
                | inr l ↦
                    let here : at + (j - at) ≡ j = omega (arith, from) in
                    let out : bit_of rows (j - at) ≡ false = none (j - at) (omega (arith, l)) (omega (arith, here, h)) in
                    behind_part at n old part 0 fits long j l ∙ sym (put_left j (chosen_from at rows j from ∙ out))
              ]
        ])

  put_lt : (w j : ℕ) → get_or old j 0 < 2 ^ w → f j < 2 ^ w → put_to j < 2 ^ w
  put_lt w j a b =
      elim (cases_Bool (is_chosen at rows j)) [
        | inl e ↦ rw (put_here j e) b
        | inr e ↦ rw (put_left j e) a
      ]

  pub put_fit : (w : ℕ) → Fit w old → ((j : ℕ) → f j < 2 ^ w) → Fit w (made (length old) put_to)
  put_fit w fit small i d h =
      let low : i < length old = omega (arith, h, made_len (length old) put_to) in
      rw (made_at (length old) put_to i d low) (put_lt w i (fit i 0 low) (small i))

  pub put_plain : (w : ℕ) → ArePlain w old → ((j : ℕ) → f j < 2 ^ w) → ArePlain w (made (length old) put_to)
  put_plain w plain small = record {
    some = plain.some;
    narrow = plain.narrow;
    few = omega (arith, plain.few, made_len (length old) put_to);
    fit = put_fit w plain.fit small;
  }

  pub put_wide : (w : ℕ) → AreWide w old → ((j : ℕ) → f j < 2 ^ w) → AreWide w (made (length old) put_to)
  put_wide w wide small = record {
    some = wide.some;
    narrow = wide.narrow;
    few = omega (arith, wide.few, made_len (length old) put_to);
    fit = put_fit w wide.fit small;
  }

  -- where no row is chosen, all stays
  pub none_put : ((j : ℕ) → j < length old → is_chosen at rows j ≡ false) → old ≡ made (length old) put_to
  none_put out = run_is old refl (λ j h. sym (put_left j (out j h)))
