-- The encoding that fits a list of values.
use Rattle.std.proofs.Common.{suc, zero, ◌<ℤ◌, ap, sym, ◌∙◌, ◌↔◌, refl, ◌≡◌, ℕ, ℤ, pos, ◌-◌, ◌^◌, ◌+ℤ◌, ◌<◌, ◌≤ℤ◌, List, [], ◌∷◌, get_or, arith, FitsSigned, w64}
use Rattle.std.specs.List.{All, Contains}
use Rattle.std.proofs.lemmas.Int.{ints}
use Rattle.std.proofs.lemmas.Nat.{pow_pos}
use Rattle.std.proofs.lemmas.List.{get_or_default}
use Rattle.std.proofs.lemmas.List.Elements.{Contains-get_or, All-contains}
use Rattle.bw_code.specs.Encodings.{kind_of, HasCode, IsFit, IsWithin, IsGreatest, IsLeast, SpansValues, bits_of, distance}
use Rattle.bw_code.specs.Ascending.{IsAscending}
use Rattle.bw_code.specs.declared.offset.Offset.{Offset}
use Rattle.bw_code.specs.declared.encoding.Encoding.{Encoding}
use Rattle.bw_code.specs.declared.encoding.Encoding.TheVariants as by
use Rattle.bw_code.specs.Sameness.{same_offset}
use Rattle.bw_code.proofs.Widths.{bits_of_is}

-- each value between the ends has a code
pub between : (xs : List ℤ) (base greatest : ℤ) (width : ℕ) → IsLeast xs base → IsGreatest xs greatest → width ≡ bits_of (distance greatest base) → distance greatest base < 2 ^ 64 → All (λ x. (base ≤ℤ x) × (x ≤ℤ (base +ℤ pos (2 ^ width - 1)))) xs
between xs base greatest width starts ends wide near k d l =
    let a : base ≤ℤ get_or xs k d = starts.bound k d l in
    let b : get_or xs k d ≤ℤ greatest = ends.bound k d l in
    let holds : distance greatest base < 2 ^ width = rw wide (bits_of_is _ near).holds in
    (a, omega (arith, ints, a, b, holds, pow_pos width))

spans : (xs : List ℤ) (o : Offset) → All (FitsSigned w64) xs → SpansValues o xs → All (IsWithin o) xs
spans xs o range s =
    let low = All-contains (FitsSigned w64) xs o.base range s.starts.reached in
    let high = All-contains (FitsSigned w64) xs s.greatest range s.ends.reached in
    between xs o.base s.greatest o.width s.starts s.ends s.wide (omega (arith, ints, low, high))

-- each value has a code by its fit
pub fit_codes : (xs : List ℤ) (e : Encoding) → All (FitsSigned w64) xs → IsFit xs e → All (HasCode e) xs
fit_codes [] e range fits = λ k d l. absurd (omega arith)
fit_codes (x ∷ xs) (by.Offset o) range fits = spans (x ∷ xs) o range fits
fit_codes (x ∷ xs) (by.Dictionary entries) range fits = λ k d l. (fits.same (get_or (x ∷ xs) k d)).1 (Contains-get_or (x ∷ xs) k d l)

-- there is one least and one greatest value
one_least : (xs : List ℤ) (a b : ℤ) → IsLeast xs a → IsLeast xs b → a ≡ b
one_least xs a b f g =
    let p : a ≤ℤ b = All-contains (λ x. a ≤ℤ x) xs b f.bound g.reached in
    let q : b ≤ℤ a = All-contains (λ x. b ≤ℤ x) xs a g.bound f.reached in
    omega (arith, ints)

one_greatest : (xs : List ℤ) (a b : ℤ) → IsGreatest xs a → IsGreatest xs b → a ≡ b
one_greatest xs a b f g =
    let p : b ≤ℤ a = All-contains (λ x. x ≤ℤ a) xs b f.bound g.reached in
    let q : a ≤ℤ b = All-contains (λ x. x ≤ℤ b) xs a g.bound f.reached in
    omega (arith, ints)

there : (x z : ℤ) (xs : List ℤ) → Contains xs z → Contains (x ∷ xs) z
there x z xs h = (suc h.0, omega (arith, h.1), h.2)

first_least : (x z : ℤ) (xs : List ℤ) → IsAscending (x ∷ xs) → Contains (x ∷ xs) z → x ≤ℤ z
first_least x z xs up (zero, l, e) = let same : x ≡ z = e in omega (arith, ints)
first_least x z xs up (suc k, l, e) =
    let less : x <ℤ get_or xs k (pos 0) = up 0 (suc k) (omega arith) l in
    let here : get_or xs k (pos 0) ≡ z = get_or_default xs k (pos 0) z (omega arith) ∙ e in
    omega (arith, ints)

above_first : (x z : ℤ) (xs : List ℤ) → IsAscending (x ∷ xs) → Contains xs z → x <ℤ z
above_first x z xs up h =
    let less : x <ℤ get_or xs h.0 (pos 0) = up 0 (suc h.0) (omega arith) (omega (arith, h.1)) in
    let here : get_or xs h.0 (pos 0) ≡ z = get_or_default xs h.0 (pos 0) z h.1 ∙ h.2 in
    omega (arith, ints)

in_rest : (x z : ℤ) (xs : List ℤ) → x <ℤ z → Contains (x ∷ xs) z → Contains xs z
in_rest x z xs less (zero, l, e) = let same : x ≡ z = e in absurd (omega (arith, ints))
in_rest x z xs less (suc k, l, e) = (k, omega arith, e)

rest_ascends : (x : ℤ) (xs : List ℤ) → IsAscending (x ∷ xs) → IsAscending xs
rest_ascends x xs up i j l m = up (suc i) (suc j) (omega arith) (omega arith)

-- ascending lists of the same entries are one list
same_entries : (xs ys : List ℤ) → IsAscending xs → IsAscending ys → ((x : ℤ) → (Contains xs x ↔ Contains ys x)) → xs ≡ ys
same_entries [] [] up rise same = refl
same_entries [] (y ∷ ys) up rise same = let h = (same y).1 (0, omega arith, refl) in absurd (omega (arith, h.1))
same_entries (x ∷ xs) [] up rise same = let h = (same x).0 (0, omega arith, refl) in absurd (omega (arith, h.1))
same_entries (x ∷ xs) (y ∷ ys) up rise same =
    let a : y ≤ℤ x = first_least y x ys rise ((same x).0 (0, omega arith, refl)) in
    let b : x ≤ℤ y = first_least x y xs up ((same y).1 (0, omega arith, refl)) in
    let first : x ≡ y = omega (arith, ints) in
    let rest : xs ≡ ys =
    same_entries xs ys (rest_ascends x xs up) (rest_ascends y ys rise) (λ z. (
      λ h. in_rest y z ys (rw (← first) (above_first x z xs up h)) ((same z).0 (there x z xs h)),
      λ h. in_rest x z xs (rw first (above_first y z ys rise h)) ((same z).1 (there y z ys h)),
    ))
    in
    cc

-- a list has one fit of a kind
pub one_fit : (xs : List ℤ) (d e : Encoding) → IsFit xs d → IsFit xs e → kind_of d ≡ kind_of e → d ≡ e
one_fit [] (by.Offset o) (by.Offset p) f g k = ap by.Offset (same_offset o p (f.0 ∙ sym g.0) (f.1 ∙ sym g.1))
one_fit (x ∷ xs) (by.Offset o) (by.Offset p) f g k =
    let low = one_least (x ∷ xs) o.base p.base f.starts g.starts in
    let high = one_greatest (x ∷ xs) f.greatest g.greatest f.ends g.ends in
    ap by.Offset (same_offset o p low (f.wide ∙ rw (low, high) (sym g.wide)))
one_fit xs (by.Dictionary a) (by.Dictionary b) f g k = ap by.Dictionary (same_entries a b f.ascending g.ascending (λ x. (λ h. (g.same x).1 ((f.same x).0 h), λ h. (f.same x).1 ((g.same x).0 h))))
one_fit xs (by.Offset o) (by.Dictionary b) f g k = absurd cc
one_fit xs (by.Dictionary a) (by.Offset p) f g k = absurd cc
