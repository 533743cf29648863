-- Words blended section by section.
use Rattle.std.proofs.Common.{Bool, ap, arith, bit_and, bit_xor, false, if◌then◌else◌, inl, inr, refl, subst, suc, sym, true, zero, ℕ, ◌%◌, ◌*◌, ◌+◌, ◌-◌, ◌/◌, ◌<◌, ◌==◌, ◌^◌, ◌≡◌, ◌≤◌, ◌∙◌}
use Rattle.std.specs.Int.{bit_at}
use Rattle.std.proofs.lemmas.Bool.{both_ways, cases_Bool, cases_lt, eq-eqb}
use Rattle.std.proofs.lemmas.Nat.{and_le_l, and_le_r, and_mask, and_mod, and_shr, mod_low, mul-add-lt, pow-add, pow_pos, shr_below, shr_high, shr_split, xor_lt, xor_mod, xor_shr}
use Rattle.std.proofs.lemmas.Nat.Bits.{bit_at-lt, bit_at_lowest}
use Rattle.std.specs.Int.Bits.{xor_zero_r}
use Rattle.std.proofs.Math.Nat.{div-eq_of_lt, mod-eq_of_lt, mul-le-mul_right, zero-mod}
use Rattle.std.proofs.Math.Pow.{pow_mono}
use Rattle.bw_mask.specs.Masks.{bit_of}
use Rattle.bw_lane.specs.Sections.{IsStored, section_of, sections_in}
use Rattle.bw_lane.proofs.Codes.{xor_back}
use Rattle.bw_lane.proofs.Joins.{bit_of_section}
use Rattle.bw_lane.proofs.Kernels.{doubled, room}
use Rattle.bw_lane.proofs.Sectionwise.{base, room_more, section_first, section_next}

section_xor : (k t a b : ℕ) → section_of k t (bit_xor a b) ≡ bit_xor (section_of k t a) (section_of k t b)
section_xor k t a b = ap (λ n. n % base k) (xor_shr a b (t * (k + 1))) ∙ xor_mod (a / 2 ^ (t * (k + 1))) (b / 2 ^ (t * (k + 1))) (k + 1)

pub section_and : (k t a b : ℕ) → section_of k t (bit_and a b) ≡ bit_and (section_of k t a) (section_of k t b)
section_and k t a b = ap (λ n. n % base k) (and_shr a b (t * (k + 1))) ∙ and_mod (a / 2 ^ (t * (k + 1))) (b / 2 ^ (t * (k + 1))) (k + 1)

-- each section is 0 or 1
abbrev pub AreMarks : ℕ → ℕ → Type 0
AreMarks k x = (t : ℕ) → section_of k t x ≤ 1

marks_above : (k x : ℕ) → AreMarks k x → AreMarks k (x / base k)
marks_above k x marks t = subst (λ n. n ≤ 1) (section_next k t x) (marks (suc t))

mark_lowest : (k x : ℕ) → AreMarks k x → x % base k ≤ 1
mark_lowest k x marks = subst (λ n. n ≤ 1) (section_first k x) (marks 0)

-- a mark times what fits a section
times_fits : (k a c : ℕ) → a ≤ 1 → c < base k → a * c < base k
times_fits k zero c h l = omega (arith, pow_pos (k + 1))
times_fits k (suc zero) c h l = omega (arith, l)
times_fits k (suc (suc a)) c h l = absurd (omega (arith, h))

times_split : (k x c : ℕ) → x * c ≡ x / base k * c * base k + x % base k * c
times_split k x c =
    let whole = shr_split x (k + 1) in
    ap (λ n. n * c) (sym whole) ∙ omega arith

section_times : (k c : ℕ) → c < base k → (t x : ℕ) → AreMarks k x → section_of k t (x * c) ≡ section_of k t x * c
section_times k c l zero x marks =
    section_first k (x * c)
    ∙ ap (λ n. n % base k) (times_split k x c)
    ∙ mod_low (x / base k * c) (k + 1) (x % base k * c) (times_fits k (x % base k) c (mark_lowest k x marks) l)
    ∙ ap (λ n. n * c) (sym (section_first k x))
section_times k c l (suc t) x marks =
    section_next k t (x * c)
    ∙ ap (section_of k t) (ap (λ n. n / base k) (times_split k x c) ∙ shr_high (x / base k * c) (k + 1) (x % base k * c) (times_fits k (x % base k) c (mark_lowest k x marks) l))
    ∙ section_times k c l t (x / base k) (marks_above k x marks)
    ∙ ap (λ n. n * c) (sym (section_next k t x))

times_room : (k c : ℕ) → c < base k → (s x : ℕ) → x < 2 ^ (s * (k + 1)) → AreMarks k x → x * c < 2 ^ (s * (k + 1))
times_room k c l zero x h marks =
    let none : 0 * (k + 1) ≡ 0 = omega arith in
    let low : x < 1 = subst (λ e. x < 2 ^ e) none h in
    let is : x ≡ 0 = omega (arith, low) in
    subst (λ n. n * c < 2 ^ (0 * (k + 1))) (sym is) (omega (arith, pow_pos (0 * (k + 1))))
times_room k c l (suc s) x h marks =
    let high : x / base k < 2 ^ (s * (k + 1)) = shr_below x (s * (k + 1)) (k + 1) (subst (λ n. x < n) (room_more k s ∙ sym (pow-add 2 (s * (k + 1)) (k + 1))) h) in
    let rest = times_room k c l s (x / base k) high (marks_above k x marks) in
    let all = mul-add-lt (x / base k * c) (base k) (x % base k * c) (2 ^ (s * (k + 1))) rest (times_fits k (x % base k) c (mark_lowest k x marks) l) in
    omega (arith, all, times_split k x c, room_more k s)

and_zero : (a : ℕ) → bit_and a 0 ≡ 0
and_zero a = omega (arith, and_le_r a 0)

zero_bit : (n i : ℕ) → bit_of n i ≡ false → bit_at n i ≡ 0
zero_bit n i e =
    elim (cases_lt (bit_at n i) 1) [
      | inl l ↦ omega (arith, l)
      | inr l ↦ absurd (both_ways (bit_of n i) e (eq-eqb (bit_at n i) 1 (omega (arith, l, bit_at-lt n i))))
    ]

one_bit : (n i : ℕ) → bit_of n i ≡ true → bit_at n i ≡ 1
one_bit n i e =
    elim (cases_lt (bit_at n i) 1) [
      | inl l ↦ let none : bit_at n i ≡ 0 = omega (arith, l) in absurd (both_ways (bit_of n i) (ap (λ b. b == 1) none) e)
      | inr l ↦ omega (arith, l, bit_at-lt n i)
    ]

times_less : (c p q : ℕ) → q ≡ p + 1 → (c * q - c ≡ c * p) × (c ≤ c * q)
times_less c p q e = rw e (omega arith, omega arith)

-- the marks of some sections, and the bits of their codes
module _ (k rows lowest : ℕ) (some : 1 ≤ k) (stored : IsStored k lowest) (each : (t : ℕ) → t < sections_in k → section_of k t lowest ≡ 1) where
  abbrev pub chosen : ℕ
  chosen = bit_and rows lowest

  abbrev pub bits : ℕ
  bits = chosen * 2 ^ k - chosen

  chosen_low : chosen < 2 ^ (sections_in k * (k + 1))
  chosen_low = omega (arith, and_le_r rows lowest, stored.no_spare)

  mark_is : (t : ℕ) → t < sections_in k → section_of k t chosen ≡ bit_at rows (t * (k + 1))
  mark_is t h =
      section_and k t rows lowest
      ∙ ap (bit_and (section_of k t rows)) (each t h)
      ∙ and_mask (section_of k t rows) 1
      ∙ sym (bit_at_lowest (section_of k t rows))
      ∙ bit_of_section k t 0 rows (omega arith)
      ∙ ap (bit_at rows) (omega arith)

  marks : AreMarks k chosen
  marks t =
      elim (cases_lt t (sections_in k)) [
        | inl h ↦ omega (arith, mark_is t h, bit_at-lt rows (t * (k + 1)))
        | inr h ↦
            let more : 2 ^ (sections_in k * (k + 1)) ≤ 2 ^ (t * (k + 1)) = pow_mono {i = sections_in k * (k + 1)} {j = t * (k + 1)} (mul-le-mul_right (k + 1) h) in
            let none : chosen / 2 ^ (t * (k + 1)) ≡ 0 = div-eq_of_lt (omega (arith, chosen_low, more)) in
            omega (arith, ap (λ n. n % base k) none, zero-mod (base k))
      ]

  pub shifted_low : chosen * 2 ^ k < 2 ^ 64
  shifted_low = omega (arith, times_room k (2 ^ k) (omega (arith, doubled k, pow_pos k)) (sections_in k) chosen chosen_low marks, room k)

  bits_is : bits ≡ chosen * (2 ^ k - 1)
  bits_is = (times_less chosen (2 ^ k - 1) (2 ^ k) (omega (arith, pow_pos k))).0

  pub not_below : chosen ≤ chosen * 2 ^ k
  not_below = (times_less chosen (2 ^ k - 1) (2 ^ k) (omega (arith, pow_pos k))).1

  bits_at : (t : ℕ) → t < sections_in k → section_of k t bits ≡ bit_at rows (t * (k + 1)) * (2 ^ k - 1)
  bits_at t h =
      ap (section_of k t) bits_is
      ∙ section_times k (2 ^ k - 1) (omega (arith, doubled k, pow_pos k)) t chosen marks
      ∙ ap (λ n. n * (2 ^ k - 1)) (mark_is t h)

  -- a word whose chosen sections become those of another
  module _ (word new : ℕ) (here : IsStored k word) (there : IsStored k new) where
    abbrev pub mixed : ℕ
    mixed = bit_xor word (bit_and (bit_xor word new) bits)

    mixed_at : (t : ℕ) → section_of k t mixed ≡ bit_xor (section_of k t word) (bit_and (bit_xor (section_of k t word) (section_of k t new)) (section_of k t bits))
    mixed_at t =
        section_xor k t word (bit_and (bit_xor word new) bits)
        ∙ ap (bit_xor (section_of k t word)) (section_and k t (bit_xor word new) bits ∙ ap (λ n. bit_and n (section_of k t bits)) (section_xor k t word new))

    pub mixed_is : (t : ℕ) → t < sections_in k → section_of k t mixed ≡ (if bit_of rows (t * (k + 1)) then section_of k t new else section_of k t word)
    mixed_is t h =
        let a = section_of k t word in
        let b = section_of k t new in
        let m = t * (k + 1) in
        elim (cases_Bool (bit_of rows m)) [
          | inl e ↦
              let one : bit_at rows m ≡ 1 = one_bit rows m e in
              let all : section_of k t bits ≡ 2 ^ k - 1 = bits_at t h ∙ ap (λ n. n * (2 ^ k - 1)) one ∙ omega arith in
              let low : bit_xor a b < 2 ^ k = xor_lt k a b (here.codes t h) (there.codes t h) in
              mixed_at t ∙ ap (λ n. bit_xor a (bit_and (bit_xor a b) n)) all ∙ ap (bit_xor a) (and_mask (bit_xor a b) k ∙ mod-eq_of_lt low) ∙ xor_back a b ∙ rw e refl
          | inr e ↦
              let none : bit_at rows m ≡ 0 = zero_bit rows m e in
              let all : section_of k t bits ≡ 0 = bits_at t h ∙ ap (λ n. n * (2 ^ k - 1)) none ∙ omega arith in
              mixed_at t ∙ ap (λ n. bit_xor a (bit_and (bit_xor a b) n)) all ∙ ap (bit_xor a) (and_zero (bit_xor a b)) ∙ xor_zero_r a ∙ rw e refl
        ]

    pub mixed_stored : IsStored k mixed
    mixed_stored = record {
      no_spare = xor_lt (sections_in k * (k + 1)) word (bit_and (bit_xor word new) bits) here.no_spare
          (omega (arith, and_le_l (bit_xor word new) bits, xor_lt (sections_in k * (k + 1)) word new here.no_spare there.no_spare));
      codes = λ t h. rw (mixed_is t h) (either (bit_of rows (t * (k + 1))) (there.codes t h) (here.codes t h));
    }
      where
        either : (b : Bool) {x y : ℕ} → x < 2 ^ k → y < 2 ^ k → (if b then x else y) < 2 ^ k
        either true p q = p
        either false p q = q
