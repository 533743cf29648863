-- The units of a comparison, and of a BETWEEN.
use Rattle.std.proofs.Common.{Bool, List, None, Option, Some, [], ◌∷◌, ap, ap₂, arith, false, length, not, refl, sym, true, ℕ, ℤ, ◌&&◌, ◌+◌, ◌≡◌, ◌∙◌}
use Rattle.std.specs.Prelude.{if◌then◌else◌}
use Rattle.bw_lex.specs.declared.token.CompareOp.{CompareOp}
use Rattle.bw_mask.specs.Masks.{MaskRows, len, row_at}
use Rattle.bw_mask.specs.Truth.{is_value}
use Rattle.bw_mask.specs.Truths.{truth_at}
use Rattle.bw_mask.specs.declared.truth_value.TruthValue.{TruthValue}
use Rattle.bw_mask.specs.declared.truth_value.TruthValue.TheVariants.{False, Unknown}
use Rattle.bw_code.specs.Encodings.{test_of}
use Rattle.bw_code.specs.Meters.{raised}
use Rattle.bw_column.specs.Columns.{ColumnView}
use Rattle.bw_column.specs.Comparisons.{AreTruthsAt}
use Rattle.bw_column.specs.Costs.{units_of_columns, units_of_comparison, units_of_range, units_of_test}
use Rattle.bw_model.specs.Store.{Value}
use Rattle.bw_plan.specs.Costs.{Reading, known_in, number_of, of_column, of_constant, read_at, reading_of, units_in_range, units_of_between, units_of_compared, units_of_listed}
use Rattle.bw_plan.specs.Operands.{cmp_of, mirrored, operand_at}
use Rattle.bw_plan.specs.declared.operand.SlotOperand.{SlotOperand}
use Rattle.bw_plan.specs.declared.operand.SlotOperand.TheVariants as slot

raised_twice : (m a b : ℕ) → raised (raised m a) b ≡ raised m (a + b)
raised_twice m a b = omega arith

pub units_mirrored : (sign other : CompareOp) (x : ColumnView) (value : Value) (needed : ℕ → Bool) → other ≡ mirrored sign → units_of_compared (of_column x) other (of_constant value) needed ≡ units_of_compared (of_constant value) sign (of_column x) needed
units_mirrored sign other x None needed same = refl
units_mirrored sign other x (Some number) needed same = ap (λ op. units_of_test x (test_of x.encoding (cmp_of op) number) (known_in x needed)) same

pub units_of_number : (sign : CompareOp) (x : ColumnView) (value : Value) (number : ℤ) (need : MaskRows) → value ≡ Some number → units_of_comparison x (cmp_of sign) number need ≡ units_of_compared (of_column x) sign (of_constant value) (row_at need)
units_of_number sign x value number need is = ap (λ v. units_of_compared (of_column x) sign (of_constant v) (row_at need)) (sym is)

pub units_of_both : (x y : ColumnView) (sign : CompareOp) (need : MaskRows) → len need ≡ length x.values → units_of_columns x y need ≡ units_of_compared (of_column x) sign (of_column y) (row_at need)
units_of_both x y sign need long = refl

-- the slots at which the first comparison is not false
one_left : (needed : Bool) (t : TruthValue) → (needed && not (is_value (if needed then t else Unknown) False)) ≡ (needed && not (is_value t False))
one_left true t = refl
one_left false t = refl

module _ (need : MaskRows) (f : ℕ → TruthValue) (rest falses : MaskRows) (first : List TruthValue) (are : AreTruthsAt need f first) (out : (i : ℕ) → row_at falses i ≡ is_value (truth_at first i) False)
    (left : (i : ℕ) → row_at rest i ≡ (row_at need i && not (row_at falses i))) where
  rest_row : (i : ℕ) → row_at rest i ≡ (row_at need i && not (is_value (f i) False))
  rest_row i = left i ∙ ap (λ b. row_at need i && not b) (out i ∙ ap (λ t. is_value t False) (are.rows i)) ∙ one_left (row_at need i) (f i)

  -- both comparisons, one after the other
  pub ends_units : (said : ℕ → TruthValue) (x low high : Reading) (one other : CompareOp) (old mid new : ℕ) → ((i : ℕ) → f i ≡ said i) → mid ≡ raised old (units_of_compared x one low (row_at need)) → new ≡ raised mid (units_of_compared x other high (row_at rest))
      → new ≡ raised old (units_of_compared x one low (row_at need) + units_of_compared x other high (λ i. row_at need i && not (is_value (said i) False)))
  ends_units said x low high one other old mid new same first_read second_read =
      second_read ∙ ap₂ raised first_read (ap (units_of_compared x other high) (λ t i. (rest_row i ∙ ap (λ truth. row_at need i && not (is_value truth False)) (same i)) t))
      ∙ raised_twice old (units_of_compared x one low (row_at need)) (units_of_compared x other high (λ i. row_at need i && not (is_value (said i) False)))

pub read_is : (operand : SlotOperand) (i : ℕ) → read_at (reading_of operand) i ≡ operand_at operand i
read_is (slot.Column c) i = refl
read_is (slot.Constant value) i = refl

-- a list of no entries
pub nothing_listed : (x : Reading) (entries : List Value) (needed : ℕ → Bool) → length entries ≡ 0 → units_of_listed x entries needed ≡ 0
nothing_listed (of_column x) [] needed none = refl
nothing_listed (of_column x) (entry ∷ entries) needed none = absurd (omega (arith, none))
nothing_listed (of_constant value) entries needed none = refl

none_some : (x : ℤ) → ◌≡◌ {A = Option ℤ} None (Some x) → ⊥
none_some x e = cc

-- an operand that is a number
pub number_at : (operand : SlotOperand) (number : ℤ) → number_of (reading_of operand) ≡ Some number → (i : ℕ) → operand_at operand i ≡ Some number
number_at (slot.Column c) number is i = absurd (none_some number is)
number_at (slot.Constant value) number is i = is

pub range_units : (x : ColumnView) (value low high : Reading) (first last : ℤ) (need : MaskRows) → value ≡ of_column x → number_of low ≡ Some first → number_of high ≡ Some last → units_of_range x first last need ≡ units_of_between value low high (row_at need)
range_units x value low high first last need is low_is high_is =
    sym (ap (λ v. units_in_range v low high (number_of low) (number_of high) (row_at need)) is
    ∙ ap (λ n. units_in_range (of_column x) low high n (number_of high) (row_at need)) low_is
    ∙ ap (λ n. units_in_range (of_column x) low high (Some first) n (row_at need)) high_is)
