-- One code of a word, read and replaced.
use Rattle.std.proofs.Common.{◌≡◌, ◌≢◌, ℕ, ◌+◌, ◌-◌, ◌*◌, ◌/◌, ◌%◌, ◌^◌, ◌<◌, ◌≤◌, Bool, true, false, if◌then◌else◌, ◌==◌, bit_and, bit_xor, inl, inr, sym, ap, subst, ◌∙◌, arith}
use Rattle.std.proofs.lemmas.Nat.{pow_pos, pow-add, shr-shr, shr_split, shr_below, shr_high, mod_low, mod_below, mul-add-lt, xor_block, xor_lt, and_mask, shl_whole, one_shl, div-add-mod'}
use Rattle.std.proofs.lemmas.Nat.Bits.{bit_at_cat_low, bit_at-lt, bit_at_xor, same_from_bits, same_from_bits_below}
use Rattle.std.proofs.Math.Nat.{mul-le-mul_right}
use Rattle.std.proofs.lemmas.Bool.{cases_order}
use Rattle.std.proofs.lemmas.Bool.Decides.{nat_tests}
use Rattle.std.specs.Int.Bits.{xor_zero_r}
use Rattle.std.specs.Int.{bit_at}
use Rattle.bw_lane.specs.Sections.{section_of, sections_in, IsStored}
use Rattle.bw_lane.proofs.Sectionwise.{base}
use Rattle.bw_lane.proofs.Kernels.{doubled}
use Rattle.bw_lane.proofs.Joins.{bit_of_section}

-- what is turned twice is as it was
pub xor_back : (a c : ℕ) → bit_xor a (bit_xor a c) ≡ c
xor_back a c = same_from_bits (bit_xor a (bit_xor a c)) c (λ i. omega (arith, bit_at_xor a (bit_xor a c) i, bit_at_xor a c i, bit_at-lt a i, bit_at-lt c i))

pub place_fits : (k t : ℕ) → t < sections_in k → (t + 1) * (k + 1) ≤ 64
place_fits k t h = omega (arith, div-add-mod' 64 (k + 1), mul-le-mul_right (k + 1) h)

module _ (k t word c : ℕ) (small : c < 2 ^ k) where
  abbrev m : ℕ
  m = t * (k + 1)

  abbrev high : ℕ
  high = word / 2 ^ m / base k

  abbrev low : ℕ
  low = word % 2 ^ m

  abbrev pub placed : ℕ
  placed = (high * base k + c) * 2 ^ m + low

  in_base : c < base k
  in_base = omega (arith, doubled k)

  low_fits : low < 2 ^ m
  low_fits = mod_below word (2 ^ m) (pow_pos m)

  parts : (high * base k + section_of k t word) * 2 ^ m + low ≡ word
  parts = ap (λ n. n * 2 ^ m + low) (shr_split (word / 2 ^ m) (k + 1)) ∙ shr_split word m

  pub placed_by_xor : bit_xor word (bit_xor (section_of k t word) c * 2 ^ m) ≡ placed
  placed_by_xor =
      let old = section_of k t word in
      let d = bit_xor old c in
      let old_fits : old < base k = mod_below (word / 2 ^ m) (base k) (pow_pos (k + 1)) in
      let d_fits : d < base k = xor_lt (k + 1) old c old_fits in_base in
      let zero_fits : 0 < 2 ^ m = pow_pos m in
      let whole : d * 2 ^ m ≡ d * 2 ^ m + 0 = omega arith in
      let whole' : d ≡ 0 * base k + d = omega arith in
      ap (λ n. bit_xor n (d * 2 ^ m)) (sym parts)
      ∙ ap (bit_xor ((high * base k + old) * 2 ^ m + low)) whole
      ∙ xor_block m (high * base k + old) d low 0 low_fits zero_fits
      ∙ ap (λ n. bit_xor (high * base k + old) d * 2 ^ m + n) (xor_zero_r low)
      ∙ ap (λ n. n * 2 ^ m + low) (
      ap (bit_xor (high * base k + old)) whole'
      ∙ xor_block (k + 1) high 0 old d old_fits d_fits
      ∙ ap (λ n. n * base k + bit_xor old d) (xor_zero_r high)
      ∙ ap (λ n. high * base k + n) (xor_back old c)
      )

  pub placed_by_shift : t < sections_in k → bit_xor word (bit_xor (section_of k t word) c * 2 ^ m % 2 ^ 64) ≡ placed
  placed_by_shift h =
      let old_fits : section_of k t word < base k = mod_below (word / 2 ^ m) (base k) (pow_pos (k + 1)) in
      let d_fits = xor_lt (k + 1) (section_of k t word) c old_fits in_base in
      let places : (k + 1) + m ≤ 64 = omega (arith, place_fits k t h) in
      ap (bit_xor word) (shl_whole (bit_xor (section_of k t word) c) (k + 1) m 64 d_fits places) ∙ placed_by_xor

  above : placed / 2 ^ m ≡ high * base k + c
  above = shr_high (high * base k + c) m low low_fits

  at_place : section_of k t placed ≡ c
  at_place = ap (λ n. n % base k) above ∙ mod_low high (k + 1) c in_base

  higher : (u : ℕ) → t < u → section_of k u placed ≡ section_of k u word
  higher u h =
      let v = u - t - 1 in
      let e : u * (k + 1) ≡ (m + (k + 1)) + v * (k + 1) = ap (λ n. n * (k + 1)) {x = u} {y = t + 1 + v} (omega arith) ∙ omega arith in
      let split = λ (n : ℕ). ap (λ p. n / 2 ^ p) e ∙ sym (shr-shr n (m + (k + 1)) (v * (k + 1))) ∙ ap (λ q. q / 2 ^ (v * (k + 1))) (sym (shr-shr n m (k + 1))) in
      ap (λ q. q % base k) (split placed ∙ ap (λ q. q / 2 ^ (v * (k + 1))) (ap (λ q. q / base k) above ∙ shr_high high (k + 1) c in_base) ∙ sym (split word))

  lower : (u : ℕ) → u < t → section_of k u placed ≡ section_of k u word
  lower u h =
      same_from_bits_below (k + 1) (section_of k u placed) (section_of k u word)
      (mod_below (placed / 2 ^ (u * (k + 1))) (base k) (pow_pos (k + 1))) (mod_below (word / 2 ^ (u * (k + 1))) (base k) (pow_pos (k + 1)))
      (λ e lt.
      let under : u * (k + 1) + e < m = omega (arith, mul-le-mul_right (k + 1) h) in
      bit_of_section k u e placed lt
      ∙ bit_at_cat_low (high * base k + c) m low (u * (k + 1) + e) under
      ∙ sym (bit_at_cat_low (word / 2 ^ m) m low (u * (k + 1) + e) under)
      ∙ ap (λ n. bit_at n (u * (k + 1) + e)) (shr_split word m)
      ∙ sym (bit_of_section k u e word lt))

  pub sections_of_placed : (u : ℕ) → section_of k u placed ≡ (if u == t then c else section_of k u word)
  sections_of_placed u =
      elim (cases_order u t) [
        | inl q ↦ let same = subst (λ v. section_of k v placed ≡ c) (sym q) at_place in chosen u t _ c _ q same
        | inr rest ↦ elim rest [ inl l ↦ kept u t _ c _ (λ q. omega arith) (lower u l) | inr g ↦ kept u t _ c _ (λ q. omega arith) (higher u g) ]
      ]
    where
      chosen : (u t a c b : ℕ) → u ≡ t → a ≡ c → a ≡ (if u == t then c else b)
      chosen u t a c b p q = grind (arith, nat_tests)

      kept : (u t a c b : ℕ) → u ≢ t → a ≡ b → a ≡ (if u == t then c else b)
      kept u t a c b p q = grind (arith, nat_tests)

  pub placed_stored : t < sections_in k → IsStored k word → IsStored k placed
  placed_stored h stored = record {
    no_spare =
        let v = sections_in k - t - 1 in
        let e : sections_in k * (k + 1) ≡ v * (k + 1) + (m + (k + 1)) = ap (λ n. n * (k + 1)) {x = sections_in k} {y = v + (t + 1)} (omega arith) ∙ omega arith in
        let hi : high < 2 ^ (v * (k + 1)) =
        subst (λ n. n < 2 ^ (v * (k + 1))) (sym (shr-shr word m (k + 1))) (shr_below word (v * (k + 1)) (m + (k + 1)) (subst (λ p. word < 2 ^ p) e (stored.no_spare))) in
        let one = mul-add-lt high (base k) c (2 ^ (v * (k + 1))) hi in_base in
        let two = mul-add-lt (high * base k + c) (2 ^ m) low (2 ^ (v * (k + 1)) * base k) (omega (arith, one)) low_fits in
        let room : 2 ^ (sections_in k * (k + 1)) ≡ 2 ^ (v * (k + 1)) * (2 ^ m * base k) = ap (λ p. 2 ^ p) e ∙ pow-add 2 (v * (k + 1)) (m + (k + 1)) ∙ ap (λ n. 2 ^ (v * (k + 1)) * n) (pow-add 2 m (k + 1)) in
        omega (arith, two, room);
    codes = λ u lt. subst (λ n. n < 2 ^ k) (sym (sections_of_placed u)) (either (u == t) (stored.codes u lt));
  }
    where
      either : (b : Bool) {n : ℕ} → n < 2 ^ k → (if b then c else n) < 2 ^ k
      either true h = small
      either false h = h

pub section_by_mask : (k t word : ℕ) → k + 1 < 64 → bit_and (word / 2 ^ (t * (k + 1))) (1 * 2 ^ (k + 1) % 2 ^ 64 - 1) ≡ section_of k t word
section_by_mask k t word h = ap (λ n. bit_and (word / 2 ^ (t * (k + 1))) (n - 1)) (one_shl (k + 1) 64 h) ∙ and_mask (word / 2 ^ (t * (k + 1))) (k + 1)
