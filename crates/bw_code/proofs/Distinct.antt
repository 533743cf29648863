-- What `sort` and `dedup` leave: the values, each once, ascending.
use Rattle.std.proofs.Common.{◌≡◌, ℤ, pos, refl, sym, List, subst, arith, ◌↔◌}
use Rattle.std.specs.List.{Contains, dedup}
use Rattle.std.specs.List.Sorted.{IsSorted, IsStrictlySortedBy, IsPermutation}
use Rattle.std.specs.Ordering.{int_cmp, int_eq}
use Rattle.std.specs.Cmp.{int_cmp_total, int_eq_equiv}
use Rattle.std.proofs.lemmas.Int.{ints}
use Rattle.std.proofs.lemmas.List.Kept.{Contains-dedup, Contains-from_dedup, IsStrictlySortedBy-dedup}
use Rattle.std.proofs.lemmas.List.Sorted.{Contains-permutation, IsPermutation-sym}
use Rattle.std.proofs.lemmas.Map.Keys.{Less-from_sorted}
use Rattle.std.proofs.lemmas.Bool.Decides.{Decides-int_eq}
use Rattle.bw_code.specs.Ascending.{IsAscending}
use Rattle.bw_code.specs.Encodings.{AreDistinct}

sorted_ascends : (xs ys : List ℤ) → IsSorted int_cmp xs → ys ≡ dedup int_eq xs → IsAscending ys
sorted_ascends xs ys sorted is i j less l =
    let strict = subst (λ (zs : List ℤ). IsStrictlySortedBy int_cmp zs) (sym is) (IsStrictlySortedBy-dedup int_cmp_total (λ x y. refl) xs sorted) in
    let order = Less-from_sorted int_cmp ys i j (pos 0) strict less l in
    grind (arith, ints, order)

sorted_same : (xs ys zs : List ℤ) → IsPermutation xs ys → zs ≡ dedup int_eq ys → (x : ℤ) → (Contains zs x ↔ Contains xs x)
sorted_same xs ys zs moved is x = (
  λ h. Contains-permutation ys xs x (IsPermutation-sym xs ys moved) (Contains-from_dedup int_eq ys x (subst (λ (ws : List ℤ). Contains ws x) is h)),
  λ h. subst (λ (ws : List ℤ). Contains ws x) (sym is) (Contains-dedup int_eq_equiv (λ a b e. (Decides-int_eq a b).0 e) ys x (Contains-permutation xs ys x moved h)),
)

pub distinct : (xs ys zs : List ℤ) → IsPermutation xs ys → IsSorted int_cmp ys → zs ≡ dedup int_eq ys → AreDistinct xs zs
distinct xs ys zs moved sorted is = record { ascending = sorted_ascends ys zs sorted is; same = sorted_same xs ys zs moved is }
