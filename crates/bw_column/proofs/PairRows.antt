-- What two codes say of two values.
use Rattle.std.proofs.Common.{Bool, Option, Some, ap, arith, if◌then◌else◌, inl, inr, is_some, pos, pow_pos, refl, subst, sym, true, false, ℕ, ℤ, ◌%◌, ◌&&◌, ◌*◌, ◌+◌, ◌+ℤ◌, ◌-◌, ◌/◌, ◌<◌, ◌^◌, ◌≡◌, ◌∙◌}
use Rattle.bw_mask.specs.Masks.{MaskRows, bit_of, row_at}
use Rattle.bw_code.specs.Columns.{CodeList, code_at, count}
use Rattle.bw_code.specs.Encodings.{IsEncoding, code_of, value_of, width}
use Rattle.bw_code.specs.Meters.{raised}
use Rattle.bw_code.specs.Tests.{code_compares, int_compares}
use Rattle.bw_code.specs.Units.{segments_of, some_below, units_of_addition}
use Rattle.std.proofs.Math.Nat.{mul-add, mul_comm}
use Rattle.bw_code.specs.declared.compare.CmpOp.{CmpOp}
use Rattle.bw_code.specs.declared.encoding.Encoding.{Encoding}
use Rattle.bw_code.specs.declared.encoding.Encoding.TheVariants as by
use Rattle.bw_code.specs.declared.offset.Offset.{Offset}
use Rattle.bw_code.proofs.Codes.{code_less, code_low}
use Rattle.bw_code.proofs.Meeting.{and_both, same_order}
use Rattle.std.proofs.lemmas.Bool.{cases_lt}
use Rattle.std.proofs.lemmas.List.{get_or_past}
use Rattle.bw_code.specs.declared.kind.Layout.{Layout}
use Rattle.bw_column.specs.Codes.{AreRowCodes, IsRowCode, value_from, values_from}
use Rattle.bw_column.specs.Comparisons.{compare_so}
use Rattle.bw_column.specs.PlaneSources.{HoldsCodes, units_in}
use Rattle.bw_column.specs.Values.{value_at}
use Rattle.bw_column.specs.declared.column_planes.ColumnPlanes.{ColumnPlanes}
use Rattle.bw_vertical.specs.Planes.{code_in, in_plane}
use Rattle.bw_vertical.proofs.Numbers.{number_is}
use Rattle.bw_column.proofs.Rows.{known_rows, value_of_row}

-- two codes of one encoding compare as their values do
codes_compare : (e : Encoding) → IsEncoding e → (op : CmpOp) (i j : ℕ) → IsRowCode e i true → IsRowCode e j true → code_compares op i j ≡ int_compares op (value_of e i) (value_of e j)
codes_compare e sound op i j h k =
    let x = value_of e i in
    let y = value_of e j in
    let same : x ≡ y → i ≡ j = λ p. let a = h.0 in let b = k.0 in let c : code_of e x ≡ Some j = ap (code_of e) p ∙ b in some_same i j (sym a ∙ c) in
    sym (same_order op x y i j (code_less e sound x y i j h.0 k.0) same (code_less e sound y x j i k.0 h.0))
  where
    some_same : (a b : ℕ) → Some a ≡ Some b → a ≡ b
    some_same a b p = cc

module _ {l : Layout} (e : Encoding) (codes : CodeList) (nonnull : MaskRows) (are : AreRowCodes l e codes nonnull) (i : ℕ) where
  -- a row at which the value is known
  pub record IsKnown : Type 0 where
    pub inside : i < count codes
    pub coded : IsRowCode e (code_at codes i) true
    pub is : value_at (values_from e codes nonnull) i ≡ Some (value_of e (code_at codes i))

  pub known_at : is_some (value_at (values_from e codes nonnull) i) ≡ true → IsKnown
  known_at h =
      let there : row_at nonnull i ≡ true = known_rows e codes nonnull are i ∙ h in
      elim (cases_lt i (count codes)) [
        | inl l ↦
            record {
              inside = l;
              coded = subst (IsRowCode e (code_at codes i)) there (are.each i l);
              is = value_of_row e codes nonnull are i ∙ ap (value_from e (code_at codes i)) there;
            }
        | inr l ↦ absurd (let away : row_at nonnull i ≡ false = get_or_past nonnull.rows i false (omega (arith, are.len)) in cc)
      ]

module _ {l m : Layout} (op : CmpOp) (e d : Encoding) (codes others : CodeList) (nonnull nonnull_others : MaskRows) (are : AreRowCodes l e codes nonnull) (others_are : AreRowCodes m d others nonnull_others) (i : ℕ) where
  abbrev value : Option ℤ
  value = value_at (values_from e codes nonnull) i

  abbrev other : Option ℤ
  other = value_at (values_from d others nonnull_others) i

  -- where the two codes compare as the values that they stand for do
  met : (code : Bool) → (is_some value && is_some other) ≡ true → code ≡ int_compares op (value_of e (code_at codes i)) (value_of d (code_at others i)) → code ≡ compare_so op value other
  met code h is =
      let both = and_both (is_some value) (is_some other) h in
      let left = known_at e codes nonnull are i both.0 in
      let right = known_at d others nonnull_others others_are i both.1 in
      is ∙ rw (left.is, right.is) refl

  -- codes of one encoding
  pub codes_met : e ≡ d → (known : Bool) → (known ≡ true → (is_some value && is_some other) ≡ true) → (known && code_compares op (code_at codes i) (code_at others i)) ≡ (known && compare_so op value other)
  codes_met same false there = refl
  codes_met same true there =
      let both = and_both (is_some value) (is_some other) (there refl) in
      let left = known_at e codes nonnull are i both.0 in
      let right = known_at d others nonnull_others others_are i both.1 in
      let coded : IsRowCode e (code_at others i) true = subst (λ f. IsRowCode f (code_at others i) true) (sym same) right.coded in
      met (code_compares op (code_at codes i) (code_at others i)) (there refl) (
      codes_compare e are.sound op (code_at codes i) (code_at others i) left.coded coded
      ∙ ap (λ f. int_compares op (value_of e (code_at codes i)) (value_of f (code_at others i))) same)

  -- distances from bases
  pub sums_met : (o p : Offset) → e ≡ by.Offset o → d ≡ by.Offset p → (known : Bool) → (known ≡ true → (is_some value && is_some other) ≡ true)
      → (known && int_compares op (o.base +ℤ pos (code_at codes i)) (p.base +ℤ pos (code_at others i))) ≡ (known && compare_so op value other)
  sums_met o p is other_is false there = refl
  sums_met o p is other_is true there =
      met (int_compares op (o.base +ℤ pos (code_at codes i)) (p.base +ℤ pos (code_at others i))) (there refl) (
      sym (ap (λ f. int_compares op (value_of f (code_at codes i)) (value_of d (code_at others i))) is ∙ ap (λ f. int_compares op (o.base +ℤ pos (code_at codes i)) (value_of f (code_at others i))) other_is))

  pub known_both : (is_some value && is_some other) ≡ true → (i < count codes) × (i < count others)
  known_both h =
      let both = and_both (is_some value) (is_some other) h in
      ((known_at e codes nonnull are i both.0).inside, (known_at d others nonnull_others others_are i both.1).inside)

-- the codes of planes that hold the codes of a column
module _ {l : Layout} (e : Encoding) (codes : CodeList) (nonnull : MaskRows) (are : AreRowCodes l e codes nonnull) (source : ColumnPlanes) (holds : HoldsCodes codes source) where
  low : (code : ℕ) (there : Bool) → IsRowCode e code there → code < 2 ^ width e
  low code true h = code_low e are.sound (value_of e code) code h.0
  low code false h = let some = pow_pos (width e) in omega (arith, h)

  pub code_held : (i : ℕ) → i < count codes → code_in codes.width (units_in source) i ≡ code_at codes i
  code_held i h =
      let k = codes.width in
      let q = i / 256 in
      let r = i % 256 in
      let at : 256 * q + r ≡ i = omega arith in
      let fits : code_at codes i < 2 ^ k = subst (λ n. code_at codes i < 2 ^ n) (sym are.width) (low (code_at codes i) (row_at nonnull i) (are.each i h)) in
      number_is (λ p. in_plane k (units_in source) p i) k (code_at codes i) fits (λ p l.
      holds.rows q p r (omega (arith, h)) l (omega arith) ∙ ap (λ n. bit_of (code_at codes n) (k - 1 - p)) at)

-- what matters at the known rows alone
pub on_known : (known f g : Bool) → (known ≡ true → f ≡ g) → (known && f) ≡ (known && g)
on_known true f g same = same refl
on_known false f g same = refl

-- the planes of both columns, counted one column after the other
pub added_units : (width other n old r s : ℕ) (needed : ℕ → Bool) → r ≡ (if some_below n needed then segments_of 256 n * width else 0) → s ≡ (if some_below n needed then segments_of 256 n * other else 0)
    → raised (raised old r) s ≡ raised old (units_of_addition width other needed n)
unfolding units_of_addition
added_units width other n old r s needed first second = by_case (some_below n needed) first second
  where
    by_case : (b : Bool) → r ≡ (if b then segments_of 256 n * width else 0) → s ≡ (if b then segments_of 256 n * other else 0)
        → raised (raised old r) s ≡ raised old (if b then (width + other) * segments_of 256 n else 0)
    by_case true h k =
        let all : (width + other) * segments_of 256 n ≡ r + s = mul_comm (width + other) (segments_of 256 n) ∙ mul-add (segments_of 256 n) width other ∙ omega (arith, h, k) in
        rw all (omega arith)
    by_case false h k = omega (arith, h, k)
