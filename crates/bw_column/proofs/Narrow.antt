-- Codes of integers that a layout holds have no more bits than it has for a code.
use Rattle.std.proofs.Common.{suc, zero, [], ◌∷◌, ◌<ℤ◌, List, Option, None, Some, arith, get_or, length, pos, ℕ, ℤ, ◌++◌, ◌+ℤ◌, ◌-ℤ◌, ◌-◌, ◌^◌, ◌<◌, ◌≡◌, ◌≤ℤ◌, ◌≤◌}
use Rattle.std.specs.List.{All}
use Rattle.std.proofs.Math.Pow.{pow_mono}
use Rattle.std.proofs.lemmas.Int.{ints}
use Rattle.std.proofs.lemmas.List.Elements.{All-append, All-contains, All-head, All-tail, Contains-get_or}
use Rattle.bw_code.specs.Ascending.{IsAscending}
use Rattle.bw_code.specs.Encodings.{AreDistinct, IsFit, SpansValues, bits_of, distance, width}
use Rattle.bw_code.specs.declared.encoding.Encoding.{Encoding}
use Rattle.bw_code.specs.declared.encoding.Encoding.TheVariants as by
use Rattle.bw_code.specs.declared.kind.Layout.{Layout}
use Rattle.bw_code.specs.declared.kind.Layout.TheVariants as layouts
use Rattle.bw_code.specs.declared.offset.Offset.{Offset}
use Rattle.bw_code.proofs.Widths.{bits_of_is}
use Rattle.bw_column.specs.Values.{IsHeld, IsNullOrHeld, known, widest}

pub known_held : (l : Layout) (xs : List (Option ℤ)) → All (IsNullOrHeld l) xs → All (IsHeld l) (known xs)
known_held l [] h = λ k d l. absurd (omega arith)
known_held l (None ∷ xs) h = known_held l xs (All-tail (IsNullOrHeld l) None xs h)
known_held l (Some x ∷ xs) h = All-cons_ x (known xs) (All-head (IsNullOrHeld l) (Some x) xs h) (known_held l xs (All-tail (IsNullOrHeld l) (Some x) xs h))
  where
    All-cons_ : (y : ℤ) (ys : List ℤ) → IsHeld l y → All (IsHeld l) ys → All (IsHeld l) (y ∷ ys)
    All-cons_ y ys a b zero d l = a
    All-cons_ y ys a b (suc k) d l = b k d (omega arith)

pub held_of_both : (l : Layout) (xs ys : List (Option ℤ)) (zs : List ℤ) → zs ≡ known (xs ++ ys) → All (IsNullOrHeld l) xs → All (IsNullOrHeld l) ys → All (IsHeld l) zs
held_of_both l xs ys zs is a b = rw is (known_held l (xs ++ ys) (All-append (IsNullOrHeld l) xs ys a b))

-- ascending integers are as far apart as their places
spread : (xs : List ℤ) → IsAscending xs → (i : ℕ) → i < length xs → (get_or xs 0 (pos 0) +ℤ pos i) ≤ℤ get_or xs i (pos 0)
spread xs up zero h = omega (arith, ints)
spread xs up (suc i) h =
    let before : (get_or xs 0 (pos 0) +ℤ pos i) ≤ℤ get_or xs i (pos 0) = spread xs up i (omega arith) in
    let next : get_or xs i (pos 0) <ℤ get_or xs (suc i) (pos 0) = up i (suc i) (omega arith) h in
    omega (arith, ints, before, next)

-- integers that lie among 2^m ones
module _ (m : ℕ) (least : ℤ) (some : 1 ≤ m) (most : m ≤ 64) where
  abbrev Lies : ℤ → Type 0
  Lies x = (least ≤ℤ x) × (x <ℤ (least +ℤ pos (2 ^ m)))

  few_bits : (n : ℕ) → n < 2 ^ m → bits_of n ≤ m
  few_bits n h = (bits_of_is n (omega (arith, h, pow_mono {i = m} {j = 64} most))).least m some h

  spans : (xs : List ℤ) (o : Offset) → All Lies xs → SpansValues o xs → o.width ≤ m
  spans xs o lie s =
      let low = All-contains Lies xs o.base lie s.starts.reached in
      let high = All-contains Lies xs s.greatest lie s.ends.reached in
      rw s.wide (few_bits (distance s.greatest o.base) (omega (arith, ints, low, high)))

  few_entries : (values xs : List ℤ) → All Lies values → AreDistinct values xs → length xs - 1 < 2 ^ m
  few_entries values [] lie are = omega (arith, pow_mono {i = 0} {j = m} (omega arith))
  few_entries values (x ∷ xs) lie are =
      let entries = x ∷ xs in
      let last = length xs in
      let at : (i : ℕ) → i < length entries → Lies (get_or entries i (pos 0)) = λ i h. All-contains Lies values (get_or entries i (pos 0)) lie ((are.same (get_or entries i (pos 0))).0 (Contains-get_or entries i (pos 0) h)) in
      let low = at 0 (omega arith) in
      let high = at last (omega arith) in
      omega (arith, ints, low, high, spread entries are.ascending last (omega arith))

  narrow_among : (values : List ℤ) (e : Encoding) → All Lies values → IsFit values e → width e ≤ m
  narrow_among [] (by.Offset o) lie fits = rw fits.1 some
  narrow_among (x ∷ xs) (by.Offset o) lie fits = spans (x ∷ xs) o lie fits
  narrow_among values (by.Dictionary entries) lie fits = few_bits (length entries - 1) (few_entries values entries lie fits)

narrow_words : (values : List ℤ) (e : Encoding) → All (IsHeld layouts.P) values → IsFit values e → width e ≤ 64
narrow_words values e held fits =
    narrow_among 64 (pos 0 -ℤ pos (2 ^ 63)) (omega arith) (omega arith) values e (λ k d h. let it = held k d h in (omega (arith, ints, it), omega (arith, ints, it))) fits

narrow_halves : (values : List ℤ) (e : Encoding) → All (IsHeld layouts.H) values → IsFit values e → width e ≤ 32
narrow_halves values e held fits =
    narrow_among 32 (pos 0 -ℤ pos (2 ^ 31)) (omega arith) (omega arith) values e (λ k d h. let it = held k d h in (omega (arith, ints, it), omega (arith, ints, it))) fits

pub narrow : (l : Layout) (values : List ℤ) (e : Encoding) → All (IsHeld l) values → IsFit values e → width e ≤ widest l
narrow layouts.P values e held fits = narrow_words values e held fits
narrow layouts.V values e held fits = narrow_words values e held fits
narrow layouts.H values e held fits = narrow_halves values e held fits
narrow layouts.S values e held fits = narrow_words values e held fits
