-- How far values lie above the least 64-bit integer stands in their order.
use Rattle.std.proofs.Common.{None, Option, Some, ap, arith, is_some, negsuc, refl, sym, ℤ, ◌&&◌, ◌-◌, ◌^◌, ◌≡◌}
use Rattle.std.proofs.lemmas.Int.{ints}
use Rattle.bw_code.specs.Tests.{code_compares}
use Rattle.bw_code.specs.declared.compare.CmpOp.{CmpOp}
use Rattle.bw_code.proofs.Meeting.{same_order}
use Rattle.bw_cells.specs.Distances.{distance_from}
use Rattle.bw_column.specs.Comparisons.{compare_so}
use Rattle.bw_column.specs.Values.{IsNullOrStorable}

-- the least 64-bit integer
abbrev pub lowest : ℤ
lowest = negsuc (2 ^ 63 - 1)

-- two values compare as their distances from there, and no null does
pub rise_met : (op : CmpOp) (x y : Option ℤ) → IsNullOrStorable x → IsNullOrStorable y → ((is_some x && is_some y) && code_compares op (distance_from lowest x) (distance_from lowest y)) ≡ compare_so op x y
rise_met op None y f g = refl
rise_met op (Some x) None f g = refl
rise_met op (Some x) (Some y) f g =
    sym (same_order op x y (distance_from lowest (Some x)) (distance_from lowest (Some y)) (λ h. omega (arith, ints, f, g, h)) (λ h. ap (λ z. distance_from lowest (Some z)) h) (λ h. omega (arith, ints, f, g, h)))
