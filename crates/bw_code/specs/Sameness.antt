-- Equality of two encodings is true exactly where they are the same, so it is an equivalence. The laws of `PartialEq` and `Eq`
-- cite these.
use Rattle.std.proofs.Common.{◌≡◌, ap, sym, ◌∙◌, refl, ◌≤◌, Bool, true, false, ◌&&◌, eqb, arith}
use Rattle.std.proofs.Math.Bridge.{le_prop}
use mathlib.Core.HLevel.{is_prop→PathP}
use Rattle.std.specs.Bool.{Decides}
use Rattle.std.specs.Cmp.{IsEquivalence, IsPartialEquivalence, partial_equiv_from_equiv}
use Rattle.std.specs.Cmp.Rules.{signed_items}
use Rattle.std.specs.Ordering.{int_eq}
use Rattle.std.proofs.lemmas.Bool.Decides.{nat_tests, Decides-int_eq}
use Rattle.bw_code.specs.Encodings.{same_encoding}
use Rattle.bw_code.specs.declared.offset.Offset.{Offset}
use Rattle.bw_code.specs.declared.encoding.Encoding.{Encoding}
use Rattle.bw_code.specs.declared.encoding.Encoding.TheVariants as by

same_bool : (a b : Bool) → (a ≡ true → b ≡ true) → (b ≡ true → a ≡ true) → a ≡ b
same_bool true true f g = refl
same_bool true false f g = sym (f refl)
same_bool false true f g = g refl
same_bool false false f g = refl

and_both : (a b : Bool) → (a && b) ≡ true → (a ≡ true) × (b ≡ true)
and_both true true e = (refl, refl)
and_both true false e = absurd cc
and_both false b e = absurd cc

-- any two proofs of the widths' bounds are equal
pub same_offset : (o p : Offset) → o.base ≡ p.base → o.width ≡ p.width → o ≡ p
same_offset o p e f = λ i. record {
  base = e i;
  width = f i;
  some = is_prop→PathP (λ j. 1 ≤ f j) (λ j. le_prop) o.some p.some i;
  few = is_prop→PathP (λ j. f j ≤ 64) (λ j. le_prop) o.few p.few i;
}

abbrev offset_in : Offset → Encoding → Offset
offset_in d (by.Offset o) = o
offset_in d (by.Dictionary entries) = d

pub same_decides : (d e : Encoding) → Decides (same_encoding d e) (d ≡ e)
same_decides (by.Offset o) (by.Offset p) = (
  λ h. let s = and_both (int_eq o.base p.base) (eqb o.width p.width) h in ap by.Offset (same_offset o p ((Decides-int_eq o.base p.base).0 s.0) (grind (arith, nat_tests, s.1))),
  λ h.
      let q : o ≡ p = ap (offset_in o) h in
      let s : int_eq o.base p.base ≡ true = (Decides-int_eq o.base p.base).1 (ap (λ (r : Offset). r.base) q) in
      let w : o.width ≡ p.width = ap (λ (r : Offset). r.width) q in
      let t : eqb o.width p.width ≡ true = grind (arith, nat_tests) in
      rw (s, t) refl,
)
same_decides (by.Dictionary a) (by.Dictionary b) = (λ h. ap by.Dictionary ((signed_items a b).0 h), λ h. (signed_items a b).1 (cc h))
same_decides (by.Offset o) (by.Dictionary b) = (λ h. absurd cc, λ h. absurd cc)
same_decides (by.Dictionary a) (by.Offset p) = (λ h. absurd cc, λ h. absurd cc)

pub same_equivalence : IsEquivalence same_encoding
same_equivalence = record {
  refl = λ d. (same_decides d d).1 refl;
  symm = λ d e. same_bool _ _ (λ h. (same_decides e d).1 (sym ((same_decides d e).0 h))) (λ h. (same_decides d e).1 (sym ((same_decides e d).0 h)));
  congr = λ d e f h. same_bool _ _ (λ g. (same_decides e f).1 (sym ((same_decides d e).0 h) ∙ (same_decides d f).0 g)) (λ g. (same_decides d f).1 ((same_decides d e).0 h ∙ (same_decides e f).0 g));
}

pub same_partial : IsPartialEquivalence same_encoding
same_partial = partial_equiv_from_equiv same_equivalence
