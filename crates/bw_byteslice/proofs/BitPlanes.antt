-- Planes of bits off slices.
use Rattle.std.proofs.Common.{Bool, List, [], ◌∷◌, ap, arith, cond, eqb, false, get_or, length, map, refl, subst, suc, sym, true, zero, ℕ, ◌%◌, ◌*◌, ◌+◌, ◌-◌, ◌/◌, ◌<◌, ◌^◌, ◌≡◌, ◌≤◌, ◌∙◌}
use Rattle.std.specs.Simd.Lanes.{mask_l}
use Rattle.std.proofs.Math.Nat.{div-lt_iff_lt-mul, mod-eq-sub-div-mul, mod-lt, mul-le-mul_right}
use Rattle.std.proofs.lemmas.Bool.Decides.{nat_tests}
use Rattle.std.proofs.lemmas.List.{get_or-map, length-map}
use Rattle.std.proofs.lemmas.Nat.{div-mul-add, mod-mul-add}
use Rattle.std.proofs.lemmas.Nat.Bits.{bit_at-lt, same_from_bits_below}
use Rattle.std.proofs.lemmas.Simd.{bit_mask_l, mask_l-lt}
use Rattle.bw_mask.specs.Masks.{bit_of, row_in}
use Rattle.bw_code.specs.Lists.{made}
use Rattle.bw_code.specs.Units.{digit, segments_of}
use Rattle.bw_code.proofs.Lists.{made_at, made_is, made_len}
use Rattle.bw_byteslice.specs.BitPlanes.{plane_in, planes_of, word_of, words_of}
use Rattle.bw_byteslice.specs.Slices.{shift_of, slices_of}
use Rattle.bw_byteslice.specs.Storing.{AreSlices, byte_of, code_of}
use Rattle.bw_byteslice.proofs.Keeping.{byte_is_digit}
use Rattle.bw_byteslice.proofs.Planes.{bit_of_byte}

-- a word by its rows
module _ (n : ℕ) (test : ℕ → Bool) where
  word_row : (r : ℕ) → r < n → bit_of (word_of n test) r ≡ test r
  unfolding word_of
  word_row r h = ap (λ x. eqb x 1) (bit_mask_l (made n test) r ∙ ap (λ b. cond b 1 0) (made_at n test r false h)) ∙ one (test r)
    where
      one : (b : Bool) → eqb (cond b 1 0) 1 ≡ b
      one true = refl
      one false = refl

  word_fits : word_of n test < 2 ^ n
  unfolding word_of
  word_fits = subst (λ k. mask_l (made n test) < 2 ^ k) (made_len n test) (mask_l-lt (made n test))

  pub word_is : (word : ℕ) → word < 2 ^ n → ((r : ℕ) → r < n → bit_of word r ≡ test r) → word ≡ word_of n test
  word_is word fits each =
      same_from_bits_below n word (word_of n test) fits word_fits (λ i h.
      let here : bit_of word i ≡ bit_of (word_of n test) i = each i h ∙ sym (word_row i h) in
      grind (arith, nat_tests, here, bit_at-lt word i, bit_at-lt (word_of n test) i))

-- four words by their rows
four : (P : ℕ → ℕ → Type 0) (a b c d : ℕ) → P 0 a → P 1 b → P 2 c → P 3 d → (w : ℕ) → w < 4 → P w (get_or (a ∷ b ∷ c ∷ d ∷ []) w 0)
four P a b c d pa pb pc pd zero h = pa
four P a b c d pa pb pc pd (suc zero) h = pb
four P a b c d pa pb pc pd (suc (suc zero)) h = pc
four P a b c d pa pb pc pd (suc (suc (suc zero))) h = pd
four P a b c d pa pb pc pd (suc (suc (suc (suc w)))) h = absurd (omega arith)

words_are : (n : ℕ) (test : ℕ → Bool) (words : List ℕ) → length words ≡ n → ((w : ℕ) → w < n → get_or words w 0 ≡ word_of 64 (λ r. test (64 * w + r))) → words ≡ words_of n test
unfolding words_of
words_are n test words count each = made_is n (λ w. word_of 64 (λ r. test (64 * w + r))) words 0 count each

module _ (test : ℕ → Bool) where
  pub four_words : (a b c d : ℕ) → a < 2 ^ 64 → b < 2 ^ 64 → c < 2 ^ 64 → d < 2 ^ 64
      → ((r : ℕ) → r < 64 → bit_of a r ≡ test (64 * 0 + r)) → ((r : ℕ) → r < 64 → bit_of b r ≡ test (64 * 1 + r))
      → ((r : ℕ) → r < 64 → bit_of c r ≡ test (64 * 2 + r)) → ((r : ℕ) → r < 64 → bit_of d r ≡ test (64 * 3 + r))
      → a ∷ b ∷ c ∷ d ∷ [] ≡ words_of 4 test
  four_words a b c d fa fb fc fd ra rb rc rd =
      words_are 4 test (a ∷ b ∷ c ∷ d ∷ []) refl
      (four (λ w x. x ≡ word_of 64 (λ r. test (64 * w + r))) a b c d
      (word_is 64 (λ r. test (64 * 0 + r)) a fa ra) (word_is 64 (λ r. test (64 * 1 + r)) b fb rb) (word_is 64 (λ r. test (64 * 2 + r)) c fc rc) (word_is 64 (λ r. test (64 * 3 + r)) d fd rd))

  words_at : (n w : ℕ) → w < n → get_or (words_of n test) w 0 ≡ word_of 64 (λ r. test (64 * w + r))
  unfolding words_of
  words_at n w h = made_at n (λ v. word_of 64 (λ r. test (64 * v + r))) w 0 h

  plane_row : (r : ℕ) → r < 256 → row_in (words_of 4 test) r ≡ test r
  plane_row r h =
      let w = r / 64 in
      let e = r % 64 in
      let whole : 64 * w + e ≡ r = omega arith in
      ap (λ x. bit_of x e) (words_at 4 w (omega (arith, h))) ∙ word_row 64 (λ s. test (64 * w + s)) e (omega arith) ∙ ap test whole

-- a plane that is read is a unit
pub plane_read : (k n : ℕ) (slices : List (List ℕ)) (u segment plane : ℕ) (slice d : List ℕ) → segment ≡ u / k → plane ≡ u % k → slice ≡ get_or slices (plane / 8) [] → u < length (planes_of k n slices)
    → plane_in slice segment (7 - plane % 8) ≡ get_or (planes_of k n slices) u d
plane_read k n slices u segment plane slice d segment_is plane_is slice_is there =
    let f : List ℕ → ℕ → ℕ → List ℕ = λ s q p. words_of 4 (λ r. bit_of (get_or s (256 * q + r) 0) (7 - p % 8)) in
    let unit : ℕ → List ℕ = λ v. words_of 4 (λ r. bit_of (byte_of slices (256 * (v / k) + r) (v % k / 8)) (7 - v % k % 8)) in
    ap (λ s. f s segment plane) slice_is
    ∙ ap (λ q. f (get_or slices (plane / 8) []) q plane) segment_is
    ∙ ap (λ p. f (get_or slices (p / 8) []) (u / k) p) plane_is
    ∙ sym (made_at (segments_of 256 n * k) unit u d (subst (λ c. u < c) (made_len (segments_of 256 n * k) unit) there))

pub planes_len : (k n : ℕ) (slices : List (List ℕ)) → length (planes_of k n slices) ≡ segments_of 256 n * k
planes_len k n slices = made_len (segments_of 256 n * k) (λ u. words_of 4 (λ r. bit_of (byte_of slices (256 * (u / k) + r) (u % k / 8)) (7 - u % k % 8)))

-- the segment of a unit is one of few
pub segment_small : (k n : ℕ) (slices : List (List ℕ)) (u : ℕ) → 1 ≤ k → n ≤ 2 ^ 24 → u < length (planes_of k n slices) → u / k < 2 ^ 32
segment_small k n slices u some few there =
    let inside : u / k < segments_of 256 n = (div-lt_iff_lt-mul {k = k} {x = u} {y = segments_of 256 n} some).1 (omega (arith, there, planes_len k n slices)) in
    omega (arith, inside, few)

-- the slice that a plane is read off
module _ (A : Type 0) (f : A → List ℕ) (xs : List A) (k n u start : ℕ) (stored : AreSlices k n (map f xs)) (start_is : start ≡ u / k * k) where
  pub plane_is : u - start ≡ u % k
  plane_is = ap (λ m. u - m) start_is ∙ sym (mod-eq-sub-div-mul u k)

  plane_low : u - start < k
  plane_low = omega (arith, plane_is, mod-lt u stored.some)

  pub slice_low : (u - start) / 8 < length xs
  slice_low = omega (arith, plane_low, stored.count, length-map xs f)

  module _ (slice : List ℕ) (d : A) (slice_is : slice ≡ f (get_or xs ((u - start) / 8) d)) where
    pub slice_at : slice ≡ get_or (map f xs) ((u - start) / 8) []
    slice_at = slice_is ∙ sym (get_or-map f xs ((u - start) / 8) d [] slice_low)

    pub slice_whole : length slice % 32 ≡ 0
    slice_whole = let long : length slice ≡ 32 * segments_of 32 n = ap length slice_at ∙ stored.long ((u - start) / 8) (omega (arith, plane_low)) in omega (arith, long)

-- row r of plane i is bit k - 1 - i of the row's code
module _ (k n : ℕ) (slices : List (List ℕ)) (stored : AreSlices k n slices) where
  code_bit : (i j : ℕ) → i < k → bit_of (byte_of slices j (i / 8)) (7 - i % 8) ≡ bit_of (code_of k slices j) (k - 1 - i)
  code_bit i j h =
      let m = slices_of k in
      let s = shift_of k in
      let e = k - 1 - i in
      let x = code_of k slices j in
      let low : i / 8 < m = omega (arith, h) in
      let place : m - 1 - (e + s) / 8 ≡ i / 8 = omega (arith, h) in
      let bit : (e + s) % 8 ≡ 7 - i % 8 = omega (arith, h) in
      ap (λ b. bit_of b (7 - i % 8)) (byte_is_digit k n slices stored (i / 8) j low)
      ∙ ap (λ p. bit_of (digit 256 m (x * 2 ^ s) p) (7 - i % 8)) (sym place)
      ∙ ap (λ p. bit_of (digit 256 m (x * 2 ^ s) (m - 1 - (e + s) / 8)) p) (sym bit)
      ∙ bit_of_byte m x s e s m refl refl (omega (arith, h))

  pub plane_bits : (q i r : ℕ) → q < segments_of 256 n → i < k → r < 256 → row_in (get_or (planes_of k n slices) (q * k + i) []) r ≡ bit_of (code_of k slices (256 * q + r)) (k - 1 - i)
  plane_bits q i r inside low short =
      let unit : ℕ → List ℕ = λ v. words_of 4 (λ e. bit_of (byte_of slices (256 * (v / k) + e) (v % k / 8)) (7 - v % k % 8)) in
      let there : q * k + i < segments_of 256 n * k = omega (arith, low, mul-le-mul_right {m = q + 1} {n = segments_of 256 n} k (omega (arith, inside))) in
      ap (λ p. row_in p r) (made_at (segments_of 256 n * k) unit (q * k + i) [] there)
      ∙ plane_row (λ e. bit_of (byte_of slices (256 * ((q * k + i) / k) + e) ((q * k + i) % k / 8)) (7 - (q * k + i) % k % 8)) r short
      ∙ ap (λ p. bit_of (byte_of slices (256 * p + r) ((q * k + i) % k / 8)) (7 - (q * k + i) % k % 8)) (div-mul-add q k i low)
      ∙ ap (λ p. bit_of (byte_of slices (256 * q + r) (p / 8)) (7 - p % 8)) (mod-mul-add q k i low)
      ∙ code_bit i (256 * q + r) low
