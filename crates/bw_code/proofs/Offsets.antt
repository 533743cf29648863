-- Distances from a base, within so many bits.
use Rattle.std.proofs.Common.{◌≡◌, ℕ, ℤ, pos, sym, ap, ◌-◌, ◌/◌, ◌^◌, ◌≤◌, ◌≤ℤ◌, ◌+ℤ◌, Bool, true, false, cond, ◌&&◌, int_lt, ltb, eqb, min, refl, ◌∙◌, arith}
use Rattle.std.specs.Int.{int_max, int_min}
use Rattle.std.specs.Ordering.{int_eq}
use Rattle.std.proofs.lemmas.Int.{ints, clamps}
use Rattle.std.proofs.lemmas.Nat.Bits.{ones_shr}
use Rattle.std.proofs.lemmas.Bool.Decides.{nat_tests, Decides-int_eq}
use Rattle.bw_code.specs.Encodings.{distance, top, offset_range, clipped_range}
use Rattle.bw_code.specs.declared.offset.Offset.{Offset}
use Rattle.bw_code.specs.declared.compare.CodeTest.TheVariants.{None, All, Range}

-- as many ones as a code has bits
pub ones : (k : ℕ) → 1 ≤ k → k ≤ 64 → (2 ^ 64 - 1) / 2 ^ (64 - k) ≡ 2 ^ k - 1
ones k a b = ones_shr 64 (64 - k) (omega arith) ∙ ap (λ e. 2 ^ e - 1) (omega arith)

pub same_bool : (a b : Bool) → (a ≡ true → b ≡ true) → (b ≡ true → a ≡ true) → a ≡ b
same_bool true true f g = refl
same_bool true false f g = sym (f refl)
same_bool false true f g = g refl
same_bool false false f g = refl

same_lt : (b : ℤ) (i j : ℕ) → int_lt (b +ℤ pos i) (b +ℤ pos j) ≡ ltb i j
same_lt b i j = same_bool _ _ (λ h. grind (arith, ints, nat_tests)) (λ h. grind (arith, ints, nat_tests))

same_eq : (b : ℤ) (i j : ℕ) → int_eq (b +ℤ pos i) (b +ℤ pos j) ≡ eqb i j
same_eq b i j = same_bool _ _ (λ h. grind (arith, ints, nat_tests, Decides-int_eq)) (λ h. grind (arith, ints, nat_tests, Decides-int_eq))

pub distance_back : (b : ℤ) (i : ℕ) → distance (b +ℤ pos i) b ≡ i
distance_back b i = omega (arith, ints)

clipped_is : (o : Offset) (first last : ℕ) → clipped_range o (o.base +ℤ pos first) (o.base +ℤ pos last) ≡ cond (ltb last first) None (cond (eqb first 0 && eqb last (2 ^ o.width - 1)) All (Range first last))
clipped_is o first last =
    let z : int_eq (o.base +ℤ pos first) o.base ≡ eqb first 0 = ap (λ x. int_eq (o.base +ℤ pos first) x) (omega (arith, ints)) ∙ same_eq o.base first 0 in
    rw (same_lt o.base last first, z, same_eq o.base last (2 ^ o.width - 1), distance_back o.base first, distance_back o.base last) refl

-- the codes of the ends of a range tell what the ends tell
pub range_is : (o : Offset) (low high : ℤ) (first last : ℕ) → o.base ≤ℤ high → first ≡ distance (int_max low o.base) o.base → last ≡ min (distance high o.base) (2 ^ o.width - 1) → offset_range o low high ≡ cond (ltb last first) None (cond (eqb first 0 && eqb last (2 ^ o.width - 1)) All (Range first last))
range_is o low high first last h f l =
    let s : int_max low o.base ≡ o.base +ℤ pos first = omega (arith, ints, clamps) in
    let t : int_min high (top o) ≡ o.base +ℤ pos last = omega (arith, ints, clamps) in
    rw (s, t) (clipped_is o first last)
