-- Slices keep codes: what a change of bytes does to the codes, and that the slices stay those of codes.
use Rattle.std.proofs.Common.{List, [], ap, arith, get_or, inl, inr, length, pow_pos, subst, sym, ℕ, ◌%◌, ◌*◌, ◌+◌, ◌++◌, ◌-◌, ◌/◌, ◌<◌, ◌^◌, ◌≡◌, ◌≤◌, ◌∙◌}
use Rattle.std.proofs.Math.Nat.{div-add-mod, div-eq_of_lt, div-lt_iff_lt-mul, mod-lt, mul-div_cancel, mul-mod_left}
use Rattle.std.proofs.lemmas.Bool.{cases_lt}
use Rattle.std.proofs.lemmas.List.{get_or_past}
use Rattle.std.proofs.lemmas.List.Elements.{All-get_or}
use Rattle.std.proofs.lemmas.Nat.{pow-add}
use Rattle.bw_code.specs.Columns.{Fit}
use Rattle.bw_code.specs.Lists.{made}
use Rattle.bw_code.specs.Units.{digit, segments_of}
use Rattle.bw_code.proofs.Lists.{made_at, made_len, made_more}
use Rattle.bw_byteslice.specs.Slices.{shift_of, slices_of}
use Rattle.bw_byteslice.specs.Storing.{AreSlices, byte_of, code_of, number_at}
use Rattle.bw_byteslice.proofs.Numbers.{digit_of_number, number_fits, number_of_digits, number_same, number_zero}
use Rattle.bw_byteslice.proofs.Raised.{pow_bytes, raised_fits}

-- codes have k bits
module _ (k n : ℕ) (slices : List (List ℕ)) (stored : AreSlices k n slices) where
  pub code_fits : (j : ℕ) → code_of k slices j < 2 ^ k
  code_fits j =
      let whole : 8 * slices_of k ≡ k + shift_of k = omega arith in
      let top : 256 ^ slices_of k ≡ 2 ^ k * 2 ^ shift_of k = pow_bytes (slices_of k) ∙ ap (λ e. 2 ^ e) whole ∙ pow-add 2 k (shift_of k) in
      (div-lt_iff_lt-mul (pow_pos (shift_of k))).1 (subst (λ p. number_at (slices_of k) slices j < p) top (number_fits (byte_of slices j) (λ i. stored.bytes i j) (slices_of k)))

  pub codes_fit : Fit k (made n (code_of k slices))
  codes_fit i d h =
      subst (λ x. x < 2 ^ k) (sym (made_at n (code_of k slices) i d (subst (λ m. i < m) (made_len n (code_of k slices)) h))) (code_fits i)

  -- the number of a row is its code, shifted up
  pub number_is : (j : ℕ) → number_at (slices_of k) slices j ≡ code_of k slices j * 2 ^ shift_of k
  number_is j = omega (arith, div-add-mod (number_at (slices_of k) slices j) (2 ^ shift_of k), stored.spare j)

  -- each byte is that of the code
  pub byte_is_digit : (i j : ℕ) → i < slices_of k → byte_of slices j i ≡ digit 256 (slices_of k) (code_of k slices j * 2 ^ shift_of k) i
  byte_is_digit i j h = sym (digit_of_number (byte_of slices j) (λ e. stored.bytes e j) (slices_of k) i h) ∙ ap (λ x. digit 256 (slices_of k) x i) (number_is j)

  -- codes past the last are 0
  pub code_past : (j : ℕ) → n ≤ j → code_of k slices j ≡ 0
  code_past j h = ap (λ x. x / 2 ^ shift_of k) (stored.clean j h) ∙ div-eq_of_lt (pow_pos (shift_of k))

  pub codes_at : (j : ℕ) → get_or (made n (code_of k slices)) j 0 ≡ code_of k slices j
  codes_at j =
      elim (cases_lt j n) [
        | inl h ↦ made_at n (code_of k slices) j 0 h
        | inr h ↦ get_or_past (made n (code_of k slices)) j 0 (omega (arith, h, made_len n (code_of k slices))) ∙ sym (code_past j h)
      ]

-- bytes of codes are written from a row on, and all others stay
module _
    (k at : ℕ) (codes : List ℕ) (before after : List (List ℕ)) (fit : Fit k codes)
    (inside : (i r : ℕ) → i < slices_of k → r < length codes → byte_of after (at + r) i ≡ digit 256 (slices_of k) (get_or codes r 0 * 2 ^ shift_of k) i)
    (outside : (i j : ℕ) → (at ≤ j → at + length codes ≤ j) → byte_of after j i ≡ byte_of before j i)
  where
    code_small : (r : ℕ) → r < length codes → get_or codes r 0 < 2 ^ k
    code_small r h = All-get_or (λ code. code < 2 ^ k) codes r 0 h fit

    number_inside : (r : ℕ) → r < length codes → number_at (slices_of k) after (at + r) ≡ get_or codes r 0 * 2 ^ shift_of k
    number_inside r h =
        let x = get_or codes r 0 * 2 ^ shift_of k in
        number_same (slices_of k) (byte_of after (at + r)) (λ i. digit 256 (slices_of k) x i) (λ i l. inside i r l h) ∙ number_of_digits (slices_of k) x (raised_fits k (get_or codes r 0) (code_small r h))

    number_outside : (j : ℕ) → (at ≤ j → at + length codes ≤ j) → number_at (slices_of k) after j ≡ number_at (slices_of k) before j
    number_outside j apart = number_same (slices_of k) (byte_of after j) (byte_of before j) (λ i _. outside i j apart)

    pub code_inside : (r : ℕ) → r < length codes → code_of k after (at + r) ≡ get_or codes r 0
    code_inside r h = ap (λ x. x / 2 ^ shift_of k) (number_inside r h) ∙ mul-div_cancel (get_or codes r 0) (pow_pos (shift_of k))

    pub code_outside : (j : ℕ) → (at ≤ j → at + length codes ≤ j) → code_of k after j ≡ code_of k before j
    code_outside j apart = ap (λ x. x / 2 ^ shift_of k) (number_outside j apart)

    -- a fact of each row's number, by the rows that are written and the others
    each_number : (P : ℕ → ℕ → Type 0) → ((r : ℕ) → r < length codes → P (at + r) (get_or codes r 0 * 2 ^ shift_of k)) → ((j : ℕ) → (at ≤ j → at + length codes ≤ j) → P j (number_at (slices_of k) before j)) → (j : ℕ) → P j (number_at (slices_of k) after j)
    each_number P here others j =
        elim (cases_lt j at) [
          | inl l ↦ let apart : at ≤ j → at + length codes ≤ j = λ up. absurd (omega arith) in subst (P j) (sym (number_outside j apart)) (others j apart)
          | inr up ↦
              elim (cases_lt j (at + length codes)) [
                | inl l ↦
                    let r = j - at in
                    let within : r < length codes = omega arith in
                    let place : at + r ≡ j = omega arith in
                    subst (λ e. P e (number_at (slices_of k) after e)) place (subst (P (at + r)) (sym (number_inside r within)) (here r within))
                | inr past ↦ subst (P j) (sym (number_outside j (λ _. past))) (others j (λ _. past))
              ]
        ]

    module _ (n more : ℕ) (stored : AreSlices k n before) (longer : n ≤ more) (few : more ≤ 2 ^ 24) (within : at + length codes ≤ more) (count : length after ≡ length before) (long : (i : ℕ) → i < slices_of k → length (get_or after i []) ≡ 32 * segments_of 32 more) where
      byte_small : (i j : ℕ) → get_or (get_or after i []) j 0 < 256
      byte_small i j =
          elim (cases_lt i (slices_of k)) [
            | inl low ↦
                elim (cases_lt j at) [
                  | inl l ↦ subst (λ b. b < 256) (sym (outside i j (λ up. absurd (omega arith)))) (stored.bytes i j)
                  | inr up ↦
                      elim (cases_lt j (at + length codes)) [
                        | inl l ↦
                            let r = j - at in
                            let place : at + r ≡ j = omega arith in
                            let here = inside i r low (omega arith) in
                            subst (λ e. byte_of after e i < 256) place (subst (λ b. b < 256) (sym here) (mod-lt _ (omega arith)))
                        | inr past ↦ subst (λ b. b < 256) (sym (outside i j (λ _. past))) (stored.bytes i j)
                      ]
                ]
            | inr high ↦ let none = ap (λ xs. get_or xs j 0) (get_or_past after i [] (omega (arith, high, count, stored.count))) in omega (arith, none)
          ]

      pub slices_put : AreSlices k more after
      slices_put = record {
        some = stored.some;
        narrow = stored.narrow;
        few = few;
        count = count ∙ stored.count;
        long = long;
        bytes = byte_small;
        spare = each_number (λ j x. x % 2 ^ shift_of k ≡ 0) (λ r h. mul-mod_left (get_or codes r 0) (2 ^ shift_of k)) (λ j _. stored.spare j);
        clean = each_number (λ j x. more ≤ j → x ≡ 0) (λ r h up. absurd (omega (arith, h, up, within))) (λ j _ up. stored.clean j (omega (arith, up, longer)));
      }

-- codes appended to the others
pub codes_more : (k n : ℕ) (codes : List ℕ) (before after : List (List ℕ)) → ((r : ℕ) → r < length codes → code_of k after (n + r) ≡ get_or codes r 0) → ((j : ℕ) → j < n → code_of k after j ≡ code_of k before j)
    → made (n + length codes) (code_of k after) ≡ made n (code_of k before) ++ codes
codes_more k n codes before after new old = made_more n (code_of k before) (code_of k after) codes 0 old new

-- no slices at first
pub slices_none : (k : ℕ) (slices : List (List ℕ)) → 1 ≤ k → k ≤ 64 → length slices ≡ slices_of k → ((i : ℕ) → get_or slices i [] ≡ []) → AreSlices k 0 slices
slices_none k slices some narrow count none =
    let zero_at : (j i : ℕ) → byte_of slices j i ≡ 0 = λ j i. ap (λ xs. get_or xs j 0) (none i) in
    let number_none : (j : ℕ) → number_at (slices_of k) slices j ≡ 0 = λ j. number_zero (slices_of k) (byte_of slices j) (λ i _. zero_at j i) in
    record {
      some = some;
      narrow = narrow;
      few = omega arith;
      count = count;
      long = λ i _. ap length (none i) ∙ omega arith;
      bytes = λ i j. omega (arith, zero_at j i);
      spare = λ j. ap (λ x. x % 2 ^ shift_of k) (number_none j) ∙ omega arith;
      clean = λ j _. number_none j;
    }
