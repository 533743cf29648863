-- The truth of comparisons of values: unknown where a value is null.
use Rattle.std.specs.Prelude.{Bool, List, None, Option, Some, false, if◌then◌else◌, int_le, length, ℕ, ℤ, ◌&&◌, ◌≡◌}
use Rattle.std.specs.List.{list_any}
use Rattle.std.specs.Ordering.{int_eq}
use Rattle.bw_mask.specs.Masks.{MaskRows, len, row_at}
use Rattle.bw_mask.specs.Truth.{is_value, truth_of_bool}
use Rattle.bw_mask.specs.Truths.{truth_at}
use Rattle.bw_mask.specs.declared.truth_value.TruthValue.{TruthValue}
use Rattle.bw_mask.specs.declared.truth_value.TruthValue.TheVariants.{True, Unknown}
use Rattle.bw_code.specs.Tests.{int_compares}
use Rattle.bw_code.specs.declared.compare.CmpOp.{CmpOp}

-- whether a test holds of a value; it holds for no null
abbrev pub holds_of : (ℤ → Bool) → Option ℤ → Bool
holds_of holds None = false
holds_of holds (Some x) = holds x

-- the truth of a test of a value; unknown of a null
abbrev pub truth_of : (ℤ → Bool) → Option ℤ → TruthValue
truth_of holds None = Unknown
truth_of holds (Some x) = truth_of_bool (holds x)

-- whether two values satisfy a comparison; false where either is null
abbrev pub compare_so : CmpOp → Option ℤ → Option ℤ → Bool
compare_so op None y = false
compare_so op (Some x) y = holds_of (λ z. int_compares op x z) y

abbrev pub compared_with : CmpOp → ℤ → Option ℤ → TruthValue
compared_with op constant value = truth_of (λ x. int_compares op x constant) value

abbrev pub compared : CmpOp → Option ℤ → Option ℤ → TruthValue
compared op None y = Unknown
compared op (Some x) y = truth_of (λ z. int_compares op x z) y

-- both ends are inclusive
abbrev pub lies_between : ℤ → ℤ → Option ℤ → TruthValue
lies_between low high value = truth_of (λ x. int_le low x && int_le x high) value

-- no value is in an empty list
abbrev pub is_listed : List ℤ → Option ℤ → TruthValue
is_listed entries value = truth_of (λ x. list_any (λ entry. int_eq x entry) entries) value

-- the truth of each needed row; every other row is unknown
pub record AreTruthsAt (need : MaskRows) (truth : ℕ → TruthValue) (truths : List TruthValue) : Type 0 where
  pub len : length truths ≡ len need
  pub rows : (i : ℕ) → truth_at truths i ≡ (if row_at need i then truth i else Unknown)

-- the needed rows where a condition is true
pub record AreTrueAt (need : MaskRows) (truth : ℕ → TruthValue) (found : MaskRows) : Type 0 where
  pub len : len found ≡ len need
  pub rows : (i : ℕ) → row_at found i ≡ (row_at need i && is_value (truth i) True)
