-- The base and the width of a column.
use Rattle.std.proofs.Common.{All, FitsSigned, List, None, Option, [], ap, arith, fold, get_or, inl, inr, length, pos, refl, subst, sym, ℕ, ℤ, ◌^◌, ◌<◌, ◌≡◌, ◌≤ℤ◌, ◌∙◌, ◌∷◌}
use Rattle.std.specs.List.{Contains}
use Rattle.std.specs.Int.{int_max, int_min, w64}
use Rattle.std.proofs.lemmas.Int.{fold-int_max_bounds, fold-int_max_reached, fold-int_min_bounds, fold-int_min_reached, ints}
use Rattle.std.proofs.lemmas.List.Elements.{All-contains, All-cons, All-get_or, Contains-append_right, Contains-get_or}
use Rattle.std.proofs.Math.ListN.{get_or-eq_default}
use Rattle.std.proofs.lemmas.Bool.{cases_lt}
use Rattle.bw_cells.specs.Known.{known}
use Rattle.bw_cells.proofs.Known.{all_known}
use Rattle.bw_code.proofs.Widths.{bits_of_is}
use Rattle.bw_code.specs.Encodings.{IsGreatest, IsLeast, IsOffsetFit, bits_of, distance}
use Rattle.bw_code.specs.declared.offset.Offset.{Offset}
use Rattle.bw_file.specs.Planes.{IsWideCell, frame_of}

-- the base is the least value, and the width holds the greatest distance from it
pub record Spans (x : ℤ) (xs : List ℤ) : Type 0 where
  pub least : IsLeast (x ∷ xs) (fold int_min x xs)
  pub greatest : IsGreatest (x ∷ xs) (fold int_max x xs)

pub spans : (x : ℤ) (xs : List ℤ) → Spans x xs
spans x xs =
    let low = fold-int_min_bounds x xs (fold int_min x xs) refl in
    let high = fold-int_max_bounds x xs (fold int_max x xs) refl in
    record {
      least = record {
        reached = elim (fold-int_min_reached x xs (fold int_min x xs) refl) [ inl e ↦ subst (Contains (x ∷ xs)) (sym e) (Contains-get_or (x ∷ xs) 0 (pos 0) (omega arith)) | inr there ↦ Contains-append_right (x ∷ []) xs (fold int_min x xs) there ];
        bound = All-cons (λ y. fold int_min x xs ≤ℤ y) x xs low.0 low.1;
      };
      greatest = record {
        reached = elim (fold-int_max_reached x xs (fold int_max x xs) refl) [ inl e ↦ subst (Contains (x ∷ xs)) (sym e) (Contains-get_or (x ∷ xs) 0 (pos 0) (omega arith)) | inr there ↦ Contains-append_right (x ∷ []) xs (fold int_max x xs) there ];
        bound = All-cons (λ y. y ≤ℤ fold int_max x xs) x xs high.0 high.1;
      };
    }

pub one_least : (values : List ℤ) (a b : ℤ) → IsLeast values a → IsLeast values b → a ≡ b
one_least values a b p q =
    let low = All-contains (λ y. a ≤ℤ y) values b p.bound q.reached in
    let high = All-contains (λ y. b ≤ℤ y) values a q.bound p.reached in
    omega (arith, ints, low, high)

one_greatest : (values : List ℤ) (a b : ℤ) → IsGreatest values a → IsGreatest values b → a ≡ b
one_greatest values a b p q =
    let low = All-contains (λ y. y ≤ℤ a) values b p.bound q.reached in
    let high = All-contains (λ y. y ≤ℤ b) values a q.bound p.reached in
    omega (arith, ints, low, high)

-- they are those of the offset that fits
pub frame_fits : (values : List ℤ) (o : Offset) → IsOffsetFit values o → (o.base ≡ (frame_of values).base) × (o.width ≡ (frame_of values).width)
frame_fits [] o fit = fit
frame_fits (x ∷ xs) o fit =
    let s = spans x xs in
    let base = one_least (x ∷ xs) o.base (fold int_min x xs) fit.starts s.least in
    let top = one_greatest (x ∷ xs) fit.greatest (fold int_max x xs) fit.ends s.greatest in
    (base, fit.wide ∙ ap (λ z. bits_of (distance z o.base)) top ∙ ap (λ z. bits_of (distance (fold int_max x xs) z)) base)

-- a value has a code from the base
pub record HasPlace (base : ℤ) (width : ℕ) (z : ℤ) : Type 0 where
  pub above : base ≤ℤ z
  pub low : distance z base < 2 ^ width

-- of 64-bit values the base is one, and each has a code of the width
pub record IsFramed (cells : List (Option ℤ)) : Type 0 where
  pub base : FitsSigned w64 (frame_of (known cells)).base
  pub places : All (HasPlace (frame_of (known cells)).base (frame_of (known cells)).width) (known cells)

framed : (values : List ℤ) → All (FitsSigned w64) values → FitsSigned w64 (frame_of values).base × All (HasPlace (frame_of values).base (frame_of values).width) values
framed [] all = (omega (arith, ints), λ k d h. absurd (omega (arith, h)))
framed (x ∷ xs) all =
    let s = spans x xs in
    let least = fold int_min x xs in
    let greatest = fold int_max x xs in
    let base : FitsSigned w64 (fold int_min x xs) = All-contains (FitsSigned w64) (x ∷ xs) (fold int_min x xs) all s.least.reached in
    let top : FitsSigned w64 (fold int_max x xs) = All-contains (FitsSigned w64) (x ∷ xs) (fold int_max x xs) all s.greatest.reached in
    let span : distance (fold int_max x xs) (fold int_min x xs) < 2 ^ 64 = omega (arith, ints, base, top) in
    let holds : distance (fold int_max x xs) (fold int_min x xs) < 2 ^ bits_of (distance (fold int_max x xs) (fold int_min x xs)) = (bits_of_is (distance (fold int_max x xs) (fold int_min x xs)) span).holds in (
      base,
      λ k d h.
          let low : fold int_min x xs ≤ℤ get_or (x ∷ xs) k d = s.least.bound k d h in
          let high : get_or (x ∷ xs) k d ≤ℤ fold int_max x xs = s.greatest.bound k d h in
          record { above = low; low = omega (arith, ints, low, high, holds) },
    )

pub is_framed : (cells : List (Option ℤ)) → All IsWideCell cells → IsFramed cells
is_framed cells all =
    let values : All (FitsSigned w64) (known cells) = all_known (FitsSigned w64) cells (λ i x is. subst IsWideCell is (at i)) in
    let f = framed (known cells) values in
    record { base = f.0; places = f.1 }
  where
    at : (i : ℕ) → IsWideCell (get_or cells i None)
    at i =
        elim (cases_lt i (length cells)) [
          | inl here ↦ All-get_or IsWideCell cells i None here all
          | inr past ↦ subst IsWideCell (sym (get_or-eq_default cells None past)) tt
        ]
