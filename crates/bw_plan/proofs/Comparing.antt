-- Comparisons of values, as a condition and as a column spell them, are one.
use Rattle.std.proofs.Common.{Bool, List, None, Some, ap, ap₂, arith, cond, false, length, not, refl, replicate, sym, true, ℕ, ℤ, ◌&&◌, ◌≡◌, ◌∙◌}
use Rattle.std.specs.Prelude.{if◌then◌else◌, int_le, int_lt}
use Rattle.std.specs.Ordering.{int_cmp, int_eq, is_eq}
use Rattle.std.specs.declared.cmp.Ordering.{Ordering}
use Rattle.std.specs.declared.cmp.Ordering.TheVariants.{Equal, Greater, Less}
use Rattle.std.proofs.lemmas.Int.{ints}
use Rattle.std.proofs.lemmas.List.{length-replicate}
use Rattle.bw_mask.specs.Masks.{MaskRows, row_at}
use Rattle.bw_mask.specs.Truths.{truth_at}
use Rattle.bw_mask.specs.Truth.{and_of, is_value, truth_of_bool}
use Rattle.bw_mask.specs.declared.truth_value.TruthValue.{TruthValue}
use Rattle.bw_mask.specs.declared.truth_value.TruthValue.TheVariants.{False, True, Unknown}
use Rattle.bw_lex.specs.declared.token.CompareOp.{CompareOp}
use Rattle.bw_lex.specs.declared.token.CompareOp.TheVariants.{Eq, Ge, Gt, Le, Lt, Ne}
use Rattle.bw_code.specs.declared.compare.CmpOp.{CmpOp}
use Rattle.bw_code.specs.Tests.{int_compares}
use Rattle.bw_column.specs.Comparisons as column
use Rattle.bw_model.specs.Condition.{compared, lies_between, order_meets}
use Rattle.bw_model.specs.Store.{Value}
use Rattle.bw_plan.specs.Operands.{cmp_of, mirrored}

-- ---- two numbers

below_once : (x y : ℤ) → int_lt x y ≡ true → int_lt y x ≡ false
below_once x y e = by (int_lt y x) refl
  where
    by : (t : Bool) → int_lt y x ≡ t → int_lt y x ≡ false
    by true f = absurd (omega (arith, ints))
    by false f = f

le_is : (x y : ℤ) → int_le x y ≡ not (int_lt y x)
le_is x y = by (int_lt y x) refl
  where
    by : (t : Bool) → int_lt y x ≡ t → int_le x y ≡ not (int_lt y x)
    by true f = grind (arith, ints)
    by false f = grind (arith, ints)

equal_by : (o : Ordering) → order_meets Eq o ≡ is_eq o
equal_by Less = refl
equal_by Equal = refl
equal_by Greater = refl

other_by : (o : Ordering) → order_meets Ne o ≡ not (is_eq o)
other_by Less = refl
other_by Equal = refl
other_by Greater = refl

below_by : (less greater : Bool) → order_meets Lt (cond less Less (cond greater Greater Equal)) ≡ less
below_by true greater = refl
below_by false true = refl
below_by false false = refl

from_by : (less greater : Bool) → order_meets Ge (cond less Less (cond greater Greater Equal)) ≡ not less
from_by true greater = refl
from_by false true = refl
from_by false false = refl

above_by : (less greater : Bool) → (less ≡ true → greater ≡ false) → order_meets Gt (cond less Less (cond greater Greater Equal)) ≡ greater
above_by true greater once = sym (once refl)
above_by false true once = refl
above_by false false once = refl

upto_by : (less greater : Bool) → (less ≡ true → greater ≡ false) → order_meets Le (cond less Less (cond greater Greater Equal)) ≡ not greater
upto_by true greater once = ap not (sym (once refl))
upto_by false true once = refl
upto_by false false once = refl

pub order_is : (op : CompareOp) (x y : ℤ) → order_meets op (int_cmp x y) ≡ int_compares (cmp_of op) x y
order_is Eq x y = equal_by (int_cmp x y)
order_is Ne x y = other_by (int_cmp x y)
order_is Lt x y = below_by (int_lt x y) (int_lt y x)
order_is Le x y = upto_by (int_lt x y) (int_lt y x) (below_once x y) ∙ sym (le_is x y)
order_is Gt x y = above_by (int_lt x y) (int_lt y x) (below_once x y)
order_is Ge x y = from_by (int_lt x y) (int_lt y x) ∙ sym (le_is y x)

-- ---- two values

pub two_compared : (op : CompareOp) (x y : Value) → column.compared (cmp_of op) x y ≡ compared op x y
two_compared op None y = refl
two_compared op (Some x) None = refl
two_compared op (Some x) (Some y) = ap truth_of_bool (sym (order_is op x y))

pub one_compared : (op : CompareOp) (x : Value) (y : ℤ) → column.compared_with (cmp_of op) y x ≡ compared op x (Some y)
one_compared op None y = refl
one_compared op (Some x) y = ap truth_of_bool (sym (order_is op x y))

pub null_compared : (op : CompareOp) (x : Value) → compared op x None ≡ Unknown
null_compared op None = refl
null_compared op (Some x) = refl

both_ends : (a b : Bool) → truth_of_bool (a && b) ≡ and_of (truth_of_bool a) (truth_of_bool b)
both_ends true b = refl
both_ends false b = refl

pub range_compared : (x : Value) (low high : ℤ) → column.lies_between low high x ≡ lies_between x (Some low) (Some high)
range_compared None low high = refl
range_compared (Some x) low high =
    both_ends (int_le low x) (int_le x high) ∙ ap₂ and_of (ap truth_of_bool (sym (order_is Ge x low))) (ap truth_of_bool (sym (order_is Le x high)))

-- ---- the sides exchanged

equal_both_ways : (x y : ℤ) → int_eq y x ≡ int_eq x y
equal_both_ways x y = by (int_lt x y) (int_lt y x) (below_once x y)
  where
    by : (less greater : Bool) → (less ≡ true → greater ≡ false) → is_eq (cond greater Less (cond less Greater Equal)) ≡ is_eq (cond less Less (cond greater Greater Equal))
    by true true once = refl
    by true false once = refl
    by false true once = refl
    by false false once = refl

numbers_exchanged : (op : CompareOp) (x y : ℤ) → int_compares (cmp_of (mirrored op)) y x ≡ int_compares (cmp_of op) x y
numbers_exchanged Eq x y = equal_both_ways x y
numbers_exchanged Ne x y = ap not (equal_both_ways x y)
numbers_exchanged Lt x y = refl
numbers_exchanged Le x y = refl
numbers_exchanged Gt x y = refl
numbers_exchanged Ge x y = refl

pub exchanged_compared : (op : CompareOp) (x y : Value) → compared (mirrored op) y x ≡ compared op x y
exchanged_compared op None None = refl
exchanged_compared op None (Some y) = refl
exchanged_compared op (Some x) None = refl
exchanged_compared op (Some x) (Some y) = ap truth_of_bool (order_is (mirrored op) y x ∙ numbers_exchanged op x y ∙ sym (order_is op x y))

-- ---- a truth at each needed row

-- truths of one condition are those of another that says the same
pub same_truths : (need : MaskRows) (f g : ℕ → TruthValue) (truths : List TruthValue) → ((i : ℕ) → f i ≡ g i) → column.AreTruthsAt need f truths → column.AreTruthsAt need g truths
same_truths need f g truths same are = record {
  len = are.len;
  rows = λ i. are.rows i ∙ ap (λ t. if row_at need i then t else Unknown) (same i);
}

module _ (need : MaskRows) (truths : List TruthValue) (op : CmpOp) (sign : CompareOp) (same : op ≡ cmp_of sign) where
  pub one_side : (values : ℕ → Value) (constant : ℤ) (value : Value) → value ≡ Some constant → column.AreTruthsAt need (λ i. column.compared_with op constant (values i)) truths → column.AreTruthsAt need (λ i. compared sign (values i) value) truths
  one_side values constant value is =
      same_truths need (λ i. column.compared_with op constant (values i)) (λ i. compared sign (values i) value) truths
      (λ i. ap (λ o. column.compared_with o constant (values i)) same ∙ one_compared sign (values i) constant ∙ ap (compared sign (values i)) (sym is))

  pub both_sides : (left right : ℕ → Value) → column.AreTruthsAt need (λ i. column.compared op (left i) (right i)) truths → column.AreTruthsAt need (λ i. compared sign (left i) (right i)) truths
  both_sides left right =
      same_truths need (λ i. column.compared op (left i) (right i)) (λ i. compared sign (left i) (right i)) truths
      (λ i. ap (λ o. column.compared o (left i) (right i)) same ∙ two_compared sign (left i) (right i))

-- a column between two numbers
pub within : (need : MaskRows) (truths : List TruthValue) (values value low high : ℕ → Value) (first last : ℤ) → ((i : ℕ) → value i ≡ values i) → ((i : ℕ) → low i ≡ Some first) → ((i : ℕ) → high i ≡ Some last)
    → column.AreTruthsAt need (λ i. column.lies_between first last (values i)) truths → column.AreTruthsAt need (λ i. lies_between (value i) (low i) (high i)) truths
within need truths values value low high first last is low_is high_is =
    same_truths need (λ i. column.lies_between first last (values i)) (λ i. lies_between (value i) (low i) (high i)) truths
    (λ i. range_compared (values i) first last ∙ sym (ap (λ v. lies_between v (low i) (high i)) (is i) ∙ ap (λ v. lies_between (values i) v (high i)) (low_is i) ∙ ap (lies_between (values i) (Some first)) (high_is i)))

-- ---- AND of two comparisons, the second where the first is not false

pub filled_long : (truths : List TruthValue) (n : ℕ) (value : TruthValue) → truths ≡ replicate n value → length truths ≡ n
filled_long truths n value is = ap length is ∙ length-replicate n value

both_needed : (need : Bool) (a b : TruthValue) → and_of (if need then a else Unknown) (if need && not (is_value (if need then a else Unknown) False) then b else Unknown) ≡ (if need then and_of a b else Unknown)
both_needed true True b = refl
both_needed true False b = refl
both_needed true Unknown b = refl
both_needed false a b = refl

pub both_hold : (need rest falses : MaskRows) (f g : ℕ → TruthValue) (first second both : List TruthValue) → column.AreTruthsAt need f first → column.AreTruthsAt rest g second
    → ((i : ℕ) → row_at falses i ≡ is_value (truth_at first i) False) → ((i : ℕ) → row_at rest i ≡ (row_at need i && not (row_at falses i)))
    → length both ≡ length first → ((i : ℕ) → truth_at both i ≡ and_of (truth_at first i) (truth_at second i)) → column.AreTruthsAt need (λ i. and_of (f i) (g i)) both
both_hold need rest falses f g first second both a b out left long rows = record {
  len = long ∙ a.len;
  rows = λ i. rows i ∙ rw (b.rows i, left i, out i, a.rows i) (both_needed (row_at need i) (f i) (g i));
}
