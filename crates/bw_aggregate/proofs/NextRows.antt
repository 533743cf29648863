-- The rows that have a value, by the truth of a comparison with it.
use Rattle.std.proofs.Common.{Bool, None, Option, Some, cond, false, refl, true, ℤ, ◌&&◌, ◌≡◌}
use Rattle.std.specs.Option.{option_eq}
use Rattle.std.specs.Ordering.{int_eq}
use Rattle.bw_mask.specs.Truth.{is_value, truth_of_bool}
use Rattle.bw_mask.specs.declared.truth_value.TruthValue.TheVariants.{True, Unknown}
use Rattle.bw_code.specs.declared.compare.CmpOp.TheVariants.{Eq}
use Rattle.bw_column.specs.Comparisons.{compared_with}

pub equal_is : (needed : Bool) (x : ℤ) (value : Option ℤ) → is_value (cond needed (compared_with Eq x value) Unknown) True ≡ (needed && option_eq int_eq value (Some x))
equal_is false x value = refl
equal_is true x None = refl
equal_is true x (Some y) = of_bool (int_eq y x)
  where
    of_bool : (b : Bool) → is_value (truth_of_bool b) True ≡ b
    of_bool true = refl
    of_bool false = refl
