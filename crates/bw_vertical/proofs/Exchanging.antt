-- Bits of words that change places.
use Rattle.std.proofs.Common.{Bool, List, ap, arith, bit_and, bit_xor, cond, false, get_or, inl, inr, ltb, not, refl, suc, sym, true, zero, ℕ, ◌%◌, ◌&&◌, ◌*◌, ◌+◌, ◌-◌, ◌/◌, ◌<◌, ◌==◌, ◌^◌, ◌||◌, ◌≡◌, ◌∙◌}
use Rattle.std.proofs.lemmas.Bool.{cases_eq, cases_lt, false≢true, le-ltb, lt-ltb}
use Rattle.bw_lane.proofs.Bits.{bit_of_xor, one_of}
use Rattle.bw_mask.specs.Masks.{bit_of}
use Rattle.bw_mask.proofs.Bits.{bit_below_shl, bit_of_and, bit_of_shl, bit_of_shr}
use Rattle.bw_vertical.specs.Exchanges.{Exchanges}

-- whether a test holds of each number below n
abbrev every : ℕ → (ℕ → Bool) → Bool
every zero test = true
every (suc n) test = every n test && test n

and_first : (a b : Bool) → (a && b) ≡ true → a ≡ true
and_first true b e = refl
and_first false b e = e

and_second : (a b : Bool) → (a && b) ≡ true → b ≡ true
and_second true b e = e
and_second false b e = absurd (false≢true e)

every_at : (n : ℕ) (test : ℕ → Bool) → every n test ≡ true → (r : ℕ) → r < n → test r ≡ true
every_at zero test all r h = absurd (omega arith)
every_at (suc n) test all r h =
    elim (cases_eq r n) [
      | inl e ↦ ap test e ∙ and_second (every n test) (test n) all
      | inr d ↦ every_at n test (and_first (every n test) (test n) all) r (omega (arith, h, d))
    ]

abbrev same : Bool → Bool → Bool
same a b = cond a b (not b)

same_is : (a b : Bool) → same a b ≡ true → a ≡ b
same_is true b e = sym e
same_is false true e = e
same_is false false e = refl

-- what is tested of bit r of a mask: whether it is in stripes of s bits, in turn
abbrev striped : ℕ → ℕ → ℕ → Bool
striped s mask r = same (bit_of mask r) (r / s % 2 == 0) && ((ltb r s || same (bit_of mask r) (not (bit_of mask (r - s)))) && (not (ltb r s) || bit_of mask r))

abbrev pub IsStriped : ℕ → ℕ → Type 0
IsStriped s mask = every 64 (striped s mask) ≡ true

module _ (s mask : ℕ) (stripes : IsStriped s mask) where
  pub stripes_are : (r : ℕ) → r < 64 → bit_of mask r ≡ (r / s % 2 == 0)
  stripes_are r h =
      same_is (bit_of mask r) (r / s % 2 == 0)
      (and_first (same (bit_of mask r) (r / s % 2 == 0)) ((ltb r s || same (bit_of mask r) (not (bit_of mask (r - s)))) && (not (ltb r s) || bit_of mask r)) (every_at 64 (striped s mask) stripes r h))

  pub stripes_exchange : s < 64 → Exchanges s mask
  stripes_exchange small = record {
    small = small;
    first = λ r h.
        below (same (bit_of mask r) (r / s % 2 == 0)) (ltb r s) (same (bit_of mask r) (not (bit_of mask (r - s)))) (bit_of mask r) (lt-ltb r s h) (every_at 64 (striped s mask) stripes r (omega (arith, h, small)));
    apart = λ r h l.
        same_is (bit_of mask r) (not (bit_of mask (r - s)))
        (above (same (bit_of mask r) (r / s % 2 == 0)) (ltb r s) (same (bit_of mask r) (not (bit_of mask (r - s)))) (bit_of mask r) (le-ltb r s h) (every_at 64 (striped s mask) stripes r l));
  }
    where
      below : (x l a m : Bool) → l ≡ true → (x && ((l || a) && (not l || m))) ≡ true → m ≡ true
      below true true a m p e = e
      below false l a m p e = absurd (false≢true e)
      below true false a m p e = absurd (false≢true p)

      above : (x l a m : Bool) → l ≡ false → (x && ((l || a) && (not l || m))) ≡ true → a ≡ true
      above true false true m p e = refl
      above true false false m p e = e
      above false l a m p e = absurd (false≢true e)
      above true true a m p e = absurd (false≢true (sym p))

module _ (low high s mask : ℕ) (turns : Exchanges s mask) where
  abbrev differ : ℕ
  differ = bit_and (bit_xor (low / 2 ^ s) high) mask

  differ_bit : (r : ℕ) → bit_of differ r ≡ (one_of (bit_of low (s + r)) (bit_of high r) && bit_of mask r)
  differ_bit r =
      bit_of_and (bit_xor (low / 2 ^ s) high) mask r
      ∙ ap (λ b. b && bit_of mask r) (bit_of_xor (low / 2 ^ s) high r ∙ ap (λ b. one_of b (bit_of high r)) (bit_of_shr low s r))

  pub high_bit : (r : ℕ) → bit_of (bit_xor high differ) r ≡ cond (bit_of mask r) (bit_of low (s + r)) (bit_of high r)
  high_bit r = bit_of_xor high differ r ∙ ap (one_of (bit_of high r)) (differ_bit r) ∙ pick (bit_of low (s + r)) (bit_of high r) (bit_of mask r)
    where
      pick : (l h m : Bool) → one_of h (one_of l h && m) ≡ cond m l h
      pick true true true = refl
      pick true true false = refl
      pick true false true = refl
      pick true false false = refl
      pick false true true = refl
      pick false true false = refl
      pick false false true = refl
      pick false false false = refl

  pub low_bit : (r : ℕ) → r < 64 → bit_of (bit_xor low (differ * 2 ^ s % 2 ^ 64)) r ≡ cond (bit_of mask r) (bit_of low r) (bit_of high (r - s))
  low_bit r h =
      bit_of_xor low (differ * 2 ^ s % 2 ^ 64) r
      ∙ elim (cases_lt r s) [
        | inl l ↦ ap (one_of (bit_of low r)) (bit_below_shl differ s r l h) ∙ rw (turns.first r l) refl
        | inr l ↦
            let back : s + (r - s) ≡ r = omega (arith, l) in
            ap (one_of (bit_of low r)) (bit_of_shl differ s r l h ∙ differ_bit (r - s) ∙ ap (λ n. one_of (bit_of low n) (bit_of high (r - s)) && bit_of mask (r - s)) back)
            ∙ pick (bit_of low r) (bit_of high (r - s)) (bit_of mask (r - s))
            ∙ ap (λ m. cond m (bit_of low r) (bit_of high (r - s))) (sym (turns.apart r l h))
      ]
    where
      pick : (l h m : Bool) → one_of l (one_of l h && m) ≡ cond (not m) l h
      pick true true true = refl
      pick true true false = refl
      pick true false true = refl
      pick true false false = refl
      pick false true true = refl
      pick false true false = refl
      pick false false true = refl
      pick false false false = refl

-- a stage of the turning: digits of the word and of the bit change places
abbrev pub Turns : ℕ → (ℕ → ℕ → Bool) → (ℕ → ℕ → Bool) → Type 0
Turns s old new = (q r d p t : ℕ) → q < 8 → r < 64 → d ≡ r / s % 2 → p ≡ 4 * d + q / 2 → t + s * d ≡ s * (q % 2) + r → new q r ≡ old p t

abbrev pub bits_in : List ℕ → ℕ → ℕ → Bool
bits_in words q r = bit_of (get_or words q 0) r

module _ (s mask : ℕ) (stripes : IsStriped s mask) (old new : List ℕ)
    (each : (q r : ℕ) → q < 8 → r < 64 → bit_of (get_or new q 0) r ≡ cond (bit_of mask r) (bit_of (get_or old (q / 2) 0) (s * (q % 2) + r)) (bit_of (get_or old (4 + q / 2) 0) (s * (q % 2) + r - s))) where
  pub stage_turns : Turns s (bits_in old) (bits_in new)
  stage_turns q r zero p t low h e place bit =
      let chosen : bit_of mask r ≡ true = stripes_are s mask stripes r h ∙ ap (λ x. x == 0) (sym e) in
      let word : q / 2 ≡ p = omega (arith, place) in
      let at : s * (q % 2) + r ≡ t = omega (arith, bit) in
      each q r low h
      ∙ ap (λ m. cond m (bit_of (get_or old (q / 2) 0) (s * (q % 2) + r)) (bit_of (get_or old (4 + q / 2) 0) (s * (q % 2) + r - s))) chosen
      ∙ ap (λ w. bit_of (get_or old w 0) (s * (q % 2) + r)) word ∙ ap (bit_of (get_or old p 0)) at
  stage_turns q r (suc zero) p t low h e place bit =
      let chosen : bit_of mask r ≡ false = stripes_are s mask stripes r h ∙ ap (λ x. x == 0) (sym e) in
      let word : 4 + q / 2 ≡ p = omega (arith, place) in
      let at : s * (q % 2) + r - s ≡ t = omega (arith, bit) in
      each q r low h
      ∙ ap (λ m. cond m (bit_of (get_or old (q / 2) 0) (s * (q % 2) + r)) (bit_of (get_or old (4 + q / 2) 0) (s * (q % 2) + r - s))) chosen
      ∙ ap (λ w. bit_of (get_or old w 0) (s * (q % 2) + r - s)) word ∙ ap (bit_of (get_or old p 0)) at
  stage_turns q r (suc (suc d)) p t low h e place bit = absurd (omega (arith, e))

-- after six stages the rows of eight words lie side by side
module _ (f0 f1 f2 f3 f4 f5 f6 : ℕ → ℕ → Bool)
    (by4 : Turns 4 f0 f1) (by2 : Turns 2 f1 f2) (by1 : Turns 1 f2 f3) (by32 : Turns 32 f3 f4) (by16 : Turns 16 f4 f5) (by8 : Turns 8 f5 f6) where
  digits : (a b c u v w x y z : ℕ) → a < 2 → b < 2 → c < 2 → u < 2 → v < 2 → w < 2 → x < 2 → y < 2 → z < 2
      → f6 (4 * a + 2 * b + c) (32 * u + 16 * v + 8 * w + 4 * x + 2 * y + z) ≡ f0 (4 * x + 2 * y + z) (32 * a + 16 * b + 8 * c + 4 * u + 2 * v + w)
  digits a b c u v w x y z ha hb hc hu hv hw hx hy hz =
      by8 (4 * a + 2 * b + c) (32 * u + 16 * v + 8 * w + 4 * x + 2 * y + z) w (4 * w + 2 * a + b) (32 * u + 16 * v + 8 * c + 4 * x + 2 * y + z) (omega arith) (omega arith) (omega arith) (omega arith) (omega arith)
      ∙ by16 (4 * w + 2 * a + b) (32 * u + 16 * v + 8 * c + 4 * x + 2 * y + z) v (4 * v + 2 * w + a) (32 * u + 16 * b + 8 * c + 4 * x + 2 * y + z) (omega arith) (omega arith) (omega arith) (omega arith) (omega arith)
      ∙ by32 (4 * v + 2 * w + a) (32 * u + 16 * b + 8 * c + 4 * x + 2 * y + z) u (4 * u + 2 * v + w) (32 * a + 16 * b + 8 * c + 4 * x + 2 * y + z) (omega arith) (omega arith) (omega arith) (omega arith) (omega arith)
      ∙ by1 (4 * u + 2 * v + w) (32 * a + 16 * b + 8 * c + 4 * x + 2 * y + z) z (4 * z + 2 * u + v) (32 * a + 16 * b + 8 * c + 4 * x + 2 * y + w) (omega arith) (omega arith) (omega arith) (omega arith) (omega arith)
      ∙ by2 (4 * z + 2 * u + v) (32 * a + 16 * b + 8 * c + 4 * x + 2 * y + w) y (4 * y + 2 * z + u) (32 * a + 16 * b + 8 * c + 4 * x + 2 * v + w) (omega arith) (omega arith) (omega arith) (omega arith) (omega arith)
      ∙ by4 (4 * y + 2 * z + u) (32 * a + 16 * b + 8 * c + 4 * x + 2 * v + w) x (4 * x + 2 * y + z) (32 * a + 16 * b + 8 * c + 4 * u + 2 * v + w) (omega arith) (omega arith) (omega arith) (omega arith) (omega arith)

  pub turned : (q r : ℕ) → q < 8 → r < 64 → f6 q r ≡ f0 (r % 8) (8 * q + r / 8)
  turned q r h l =
      let word : q ≡ 4 * (q / 4) + 2 * (q / 2 % 2) + q % 2 = omega arith in
      let bit : r ≡ 32 * (r / 32) + 16 * (r / 16 % 2) + 8 * (r / 8 % 2) + 4 * (r / 4 % 2) + 2 * (r / 2 % 2) + r % 2 = omega arith in
      let row : 4 * (r / 4 % 2) + 2 * (r / 2 % 2) + r % 2 ≡ r % 8 = omega arith in
      let place : 32 * (q / 4) + 16 * (q / 2 % 2) + 8 * (q % 2) + 4 * (r / 32) + 2 * (r / 16 % 2) + r / 8 % 2 ≡ 8 * q + r / 8 = omega arith in
      ap (λ n. f6 n r) word ∙ ap (f6 (4 * (q / 4) + 2 * (q / 2 % 2) + q % 2)) bit
      ∙ digits (q / 4) (q / 2 % 2) (q % 2) (r / 32) (r / 16 % 2) (r / 8 % 2) (r / 4 % 2) (r / 2 % 2) (r % 2)
      (omega arith) (omega arith) (omega arith) (omega arith) (omega arith) (omega arith) (omega arith) (omega arith) (omega arith)
      ∙ ap (λ n. f0 n (32 * (q / 4) + 16 * (q / 2 % 2) + 8 * (q % 2) + 4 * (r / 32) + 2 * (r / 16 % 2) + r / 8 % 2)) row ∙ ap (f0 (r % 8)) place
