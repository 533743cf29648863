-- An offset encoding that some values reach at both ends is the one that spans them.
use Rattle.std.proofs.Common.{All, Bool, List, None, Option, Some, [], ap, arith, false, fold, get_or, inl, inr, is_some, refl, subst, sym, true, ℕ, ℤ, ◌&&◌, ◌-◌, ◌<◌, ◌==◌, ◌^◌, ◌≡◌, ◌≤ℤ◌, ◌≤◌, ◌∙◌, ◌∷◌}
use Rattle.std.proofs.Math.Nat.{pow-le-pow_right}
use Rattle.std.specs.List.{Contains}
use Rattle.std.specs.Int.{bit_at, int_max, int_min}
use Rattle.std.proofs.lemmas.Bool.{cases_eq, cases_lt}
use Rattle.std.proofs.lemmas.Int.{ints}
use Rattle.std.proofs.lemmas.List.Elements.{All-contains}
use Rattle.std.proofs.lemmas.Nat.Bits.{bit_at_above}
use Rattle.bw_mask.specs.Masks.{bit_of}
use Rattle.bw_cells.specs.Known.{known}
use Rattle.bw_cells.proofs.Known.{all_known, known_at}
use Rattle.bw_code.proofs.Widths.{IsWidthOf, bits_of_is}
use Rattle.bw_code.specs.Encodings.{IsLeast, bits_of, distance}
use Rattle.bw_vertical.proofs.Descending.{some_bit}
use Rattle.bw_file.proofs.Frames.{Spans, one_least, spans}
use Rattle.bw_file.specs.Planes.{HasBase, HasTop, IsNear, bit_in, frame_of}

-- a code of which no bit is set
no_bits : (k n : ℕ) → n < 2 ^ k → ((b : ℕ) → b < k → bit_of n b ≡ false) → n ≡ 0
no_bits k n small off =
    elim (cases_eq n 0) [
      | inl none ↦ none
      | inr some ↦ let on = some_bit k n small some in let no : false ≡ true = sym (off on.0 on.1) ∙ on.2 in absurd cc
    ]

zero_cell : (base : ℤ) (k : ℕ) (cell : Option ℤ) → IsNear base k cell → is_some cell ≡ true → ((b : ℕ) → b < k → (bit_in base b cell == 1) ≡ false) → cell ≡ Some base
zero_cell base k None near there off = absurd cc
zero_cell base k (Some z) near there off =
    let none : distance z base ≡ 0 = no_bits k (distance z base) near.2 off in
    ap Some (omega (arith, ints, none, near.1))

pub base_seen : (base : ℤ) (k : ℕ) (cells : List (Option ℤ)) (i : ℕ) → IsNear base k (get_or cells i None) → is_some (get_or cells i None) ≡ true → ((b : ℕ) → b < k → (bit_in base b (get_or cells i None) == 1) ≡ false) → HasBase base cells
base_seen base k cells i near there off = (i, zero_cell base k (get_or cells i None) near there off)

top_cell : (base : ℤ) (k : ℕ) (cell : Option ℤ) → (bit_in base (k - 1) cell == 1) ≡ true → (z : ℤ) × (cell ≡ Some z) × (2 ^ (k - 1) ≤ distance z base)
top_cell base k None on = absurd cc
top_cell base k (Some z) on =
    elim (cases_lt (distance z base) (2 ^ (k - 1))) [
      | inl small ↦ (let off : bit_at (distance z base) (k - 1) ≡ 0 = bit_at_above (distance z base) (k - 1) (k - 1) small (omega arith) in let no : false ≡ true = sym (ap (λ b. b == 1) off) ∙ on in absurd cc)
      | inr large ↦ (z, refl, omega (arith, large))
    ]

pub top_seen : (base : ℤ) (k : ℕ) (cells : List (Option ℤ)) (i : ℕ) → (bit_in base (k - 1) (get_or cells i None) == 1) ≡ true → HasTop base k cells
top_seen base k cells i on = let t = top_cell base k (get_or cells i None) on in (i, t.0, t.1, t.2)

-- with both, it is the one
module _ (base : ℤ) (k : ℕ) (cells : List (Option ℤ)) (some : 1 ≤ k) (few : k ≤ 64) (near : (i : ℕ) → IsNear base k (get_or cells i None)) (low : HasBase base cells) (high : HasTop base k cells) where
  above : (z : ℤ) → IsNear base k (Some z) → (base ≤ℤ z) × (distance z base < 2 ^ k)
  above z n = (n.1, n.2)

  all_above : All (λ z. (base ≤ℤ z) × (distance z base < 2 ^ k)) (known cells)
  all_above = all_known (λ z. (base ≤ℤ z) × (distance z base < 2 ^ k)) cells (λ i z is. above z (subst (IsNear base k) is (near i)))

  tight_of : (values : List ℤ) → All (λ z. (base ≤ℤ z) × (distance z base < 2 ^ k)) values → Contains values base → (z : ℤ) → Contains values z → 2 ^ (k - 1) ≤ distance z base → (base ≡ (frame_of values).base) × (k ≡ (frame_of values).width)
  tight_of [] all there z at far = absurd (omega (arith, there.1))
  tight_of (x ∷ xs) all there z at far = (same, width)
    where
      s : Spans x xs
      s = spans x xs

      least : IsLeast (x ∷ xs) base
      least = record { reached = there; bound = λ i d h. (all i d h).0 }

      same : base ≡ fold int_min x xs
      same = one_least (x ∷ xs) base (fold int_min x xs) least s.least

      most : z ≤ℤ fold int_max x xs
      most = All-contains (λ y. y ≤ℤ fold int_max x xs) (x ∷ xs) z s.greatest.bound at

      held : (base ≤ℤ fold int_max x xs) × (distance (fold int_max x xs) base < 2 ^ k)
      held = All-contains (λ y. (base ≤ℤ y) × (distance y base < 2 ^ k)) (x ∷ xs) (fold int_max x xs) all s.greatest.reached

      from : base ≤ℤ z
      from = (All-contains (λ y. (base ≤ℤ y) × (distance y base < 2 ^ k)) (x ∷ xs) z all at).0

      reach : 2 ^ (k - 1) ≤ distance (fold int_max x xs) base
      reach = omega (arith, ints, most, from, held.0, far)

      short : distance (fold int_max x xs) base < 2 ^ 64
      short = omega (arith, held.1, pow-le-pow_right {n = 2} (omega arith) {i = k} {j = 64} few)

      is : IsWidthOf (distance (fold int_max x xs) base) (bits_of (distance (fold int_max x xs) base))
      is = bits_of_is (distance (fold int_max x xs) base) short

      upto : bits_of (distance (fold int_max x xs) base) ≤ k
      upto = is.least k some held.1

      down : k ≤ bits_of (distance (fold int_max x xs) base)
      down =
          elim (cases_lt (bits_of (distance (fold int_max x xs) base)) k) [
            | inl less ↦ absurd (omega (arith, is.holds, reach, pow-le-pow_right {n = 2} (omega arith) {i = bits_of (distance (fold int_max x xs) base)} {j = k - 1} (omega (arith, less))))
            | inr fine ↦ omega (arith, fine)
          ]

      width : k ≡ bits_of (distance (fold int_max x xs) (fold int_min x xs))
      width = (let e : k ≡ bits_of (distance (fold int_max x xs) base) = omega (arith, upto, down) in e) ∙ ap (λ b. bits_of (distance (fold int_max x xs) b)) same

  pub tight : (base ≡ (frame_of (known cells)).base) × (k ≡ (frame_of (known cells)).width)
  tight = tight_of (known cells) all_above (known_at cells low.0 base low.1) high.1 (known_at cells high.0 high.1 high.2) high.3

pub two : (a b : Bool) → (a && b) ≡ true → (a ≡ true) × (b ≡ true)
two true true e = (refl, refl)
two true false e = absurd cc
two false b e = absurd cc
