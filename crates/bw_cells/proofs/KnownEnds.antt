-- The least and the greatest of the values that are not null. A null is taken as what changes neither.
use Rattle.std.proofs.Common.{Bool, false, true, FitsSigned, w64, ◌≡◌, ◌≤ℤ◌, ◌++◌, ◌∷◌, ◌∙◌, ◌<◌, ◌||◌, [], ℤ, arith, ap, fold, get_or, inl, inr, is_some, length, length-append, List, None, Option, pos, refl, Some, subst, suc, sym, unwrap_or, zero}
use Rattle.std.specs.Int.{int_max, int_min}
use Rattle.std.specs.List.{All, Contains}
use Rattle.std.specs.Option.{option_to_list}
use Rattle.std.proofs.lemmas.Int.{clamps, fold-int_max_bounds, fold-int_max_reached, fold-int_min_bounds, fold-int_min_reached, ints}
use Rattle.std.proofs.lemmas.List.{append-nil}
use Rattle.std.proofs.lemmas.List.Elements.{All-append, Contains-append_left, Contains-append_right, Contains-get_or}
use Rattle.std.proofs.lemmas.List.Sums.{fold-append}
use Rattle.bw_code.specs.Encodings.{IsGreatest, IsLeast}

-- one value more
pub least_more : (top : ℤ) (xs : List ℤ) (value : Option ℤ) (least r : ℤ) → least ≡ fold int_min top xs → r ≡ int_min least (unwrap_or value top) → r ≡ fold int_min top (xs ++ option_to_list value)
least_more top xs None least r is here =
    let low = (fold-int_min_bounds top xs least is).0 in
    let same : r ≡ least = omega (arith, ints, clamps, low, here) in
    rw (append-nil xs) (same ∙ is)
least_more top xs (Some x) least r is here = rw (fold-append int_min top xs (x ∷ [])) (here ∙ ap (λ y. int_min y x) is)

pub greatest_more : (bottom : ℤ) (xs : List ℤ) (value : Option ℤ) (greatest r : ℤ) → greatest ≡ fold int_max bottom xs → r ≡ int_max greatest (unwrap_or value bottom) → r ≡ fold int_max bottom (xs ++ option_to_list value)
greatest_more bottom xs None greatest r is here =
    let high = (fold-int_max_bounds bottom xs greatest is).0 in
    let same : r ≡ greatest = omega (arith, ints, clamps, high, here) in
    rw (append-nil xs) (same ∙ is)
greatest_more bottom xs (Some x) greatest r is here = rw (fold-append int_max bottom xs (x ∷ [])) (here ∙ ap (λ y. int_max y x) is)

all_one : (P : ℤ → Type 0) (x : ℤ) → P x → All P (x ∷ [])
all_one P x h zero d l = h
all_one P x h (suc k) d l = absurd (omega arith)

pub fits_more : (top : ℤ) (xs : List ℤ) (value : Option ℤ) → All (FitsSigned w64) xs → FitsSigned w64 (unwrap_or value top) → All (FitsSigned w64) (xs ++ option_to_list value)
fits_more top xs None all h = rw (append-nil xs) all
fits_more top xs (Some x) all h = All-append (FitsSigned w64) xs (x ∷ []) all (all_one (FitsSigned w64) x h)

pub some_more : (xs : List ℤ) (value : Option ℤ) (any : Bool) → (any ≡ true → 0 < length xs) → (any || is_some value) ≡ true → 0 < length (xs ++ option_to_list value)
some_more xs value true some h = omega (arith, length-append xs (option_to_list value), some refl)
some_more xs None false some h = absurd cc
some_more xs (Some x) false some h = omega (arith, length-append xs (x ∷ []))

pub none_more : (xs : List ℤ) (value : Option ℤ) (any : Bool) → (any ≡ false → xs ≡ []) → (any || is_some value) ≡ false → xs ++ option_to_list value ≡ []
none_more xs value true none h = absurd cc
none_more xs None false none h = append-nil xs ∙ none refl
none_more xs (Some x) false none h = absurd cc

-- where there is a value, what was begun from is not below the least
pub least_is : (top : ℤ) (xs : List ℤ) (r : ℤ) → 0 < length xs → All (λ x. x ≤ℤ top) xs → r ≡ fold int_min top xs → IsLeast xs r
least_is top xs r l fits e =
    let bounds = fold-int_min_bounds top xs r e in
    let first = get_or xs 0 (pos 0) in
    let a : r ≤ℤ first = bounds.1 0 (pos 0) l in
    let b : first ≤ℤ top = fits 0 (pos 0) l in
    record {
      reached =
          elim (fold-int_min_reached top xs r e) [
            | inl start ↦ (let same : first ≡ r = omega (arith, ints, a, b, start) in subst (λ (x : ℤ). Contains xs x) same (Contains-get_or xs 0 (pos 0) l))
            | inr other ↦ other
          ];
      bound = bounds.1;
    }

pub greatest_is : (bottom : ℤ) (xs : List ℤ) (r : ℤ) → 0 < length xs → All (λ x. bottom ≤ℤ x) xs → r ≡ fold int_max bottom xs → IsGreatest xs r
greatest_is bottom xs r l fits e =
    let bounds = fold-int_max_bounds bottom xs r e in
    let first = get_or xs 0 (pos 0) in
    let a : first ≤ℤ r = bounds.1 0 (pos 0) l in
    let b : bottom ≤ℤ first = fits 0 (pos 0) l in
    record {
      reached =
          elim (fold-int_max_reached bottom xs r e) [
            | inl start ↦ (let same : first ≡ r = omega (arith, ints, a, b, start) in subst (λ (x : ℤ). Contains xs x) same (Contains-get_or xs 0 (pos 0) l))
            | inr other ↦ other
          ];
      bound = bounds.1;
    }

-- of two lists, one after the other
only : (x r : ℤ) → Contains (x ∷ []) r → x ≡ r
only x r (zero, l, e) = e
only x r (suc k, l, e) = absurd (omega (arith, l))

pub least_both : (xs ys : List ℤ) (a b r : ℤ) → IsLeast xs a → IsLeast ys b → r ≡ int_min a b → IsLeast (xs ++ ys) r
least_both xs ys a b r is others here =
    let low : r ≤ℤ a = omega (arith, ints, clamps, here) in
    let low_others : r ≤ℤ b = omega (arith, ints, clamps, here) in
    record {
      reached =
          elim (fold-int_min_reached a (b ∷ []) r here) [
            | inl first ↦ subst (λ (x : ℤ). Contains (xs ++ ys) x) (sym first) (Contains-append_left xs ys a is.reached)
            | inr second ↦ subst (λ (x : ℤ). Contains (xs ++ ys) x) (only b r second) (Contains-append_right xs ys b others.reached)
          ];
      bound = All-append (λ x. r ≤ℤ x) xs ys
          (λ k d l. let at : a ≤ℤ get_or xs k d = is.bound k d l in omega (arith, ints, at, low))
          (λ k d l. let at : b ≤ℤ get_or ys k d = others.bound k d l in omega (arith, ints, at, low_others));
    }

pub greatest_both : (xs ys : List ℤ) (a b r : ℤ) → IsGreatest xs a → IsGreatest ys b → r ≡ int_max a b → IsGreatest (xs ++ ys) r
greatest_both xs ys a b r is others here =
    let high : a ≤ℤ r = omega (arith, ints, clamps, here) in
    let high_others : b ≤ℤ r = omega (arith, ints, clamps, here) in
    record {
      reached =
          elim (fold-int_max_reached a (b ∷ []) r here) [
            | inl first ↦ subst (λ (x : ℤ). Contains (xs ++ ys) x) (sym first) (Contains-append_left xs ys a is.reached)
            | inr second ↦ subst (λ (x : ℤ). Contains (xs ++ ys) x) (only b r second) (Contains-append_right xs ys b others.reached)
          ];
      bound = All-append (λ x. x ≤ℤ r) xs ys
          (λ k d l. let at : get_or xs k d ≤ℤ a = is.bound k d l in omega (arith, ints, at, high))
          (λ k d l. let at : get_or ys k d ≤ℤ b = others.bound k d l in omega (arith, ints, at, high_others));
    }
