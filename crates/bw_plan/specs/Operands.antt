-- The truth of a plan at the slots of a table.
use Rattle.std.specs.Prelude.{List, length, ℕ, ◌≡◌}
use Rattle.bw_lex.specs.declared.token.CompareOp.{CompareOp}
use Rattle.bw_lex.specs.declared.token.CompareOp.TheVariants as sign
use Rattle.bw_mask.specs.declared.truth_value.TruthValue.{TruthValue}
use Rattle.bw_code.specs.declared.compare.CmpOp.{CmpOp}
use Rattle.bw_code.specs.declared.compare.CmpOp.TheVariants.{Eq, Ge, Gt, Le, Lt, Ne}
use Rattle.bw_column.specs.Values as values
use Rattle.bw_model.specs.Store.{Value}
use Rattle.bw_table.specs.Slots.{Slot, slot_at}
use Rattle.bw_plan.specs.Plans.{Plan, truth_by}
use Rattle.bw_plan.specs.declared.operand.SlotOperand.{SlotOperand}
use Rattle.bw_plan.specs.declared.operand.SlotOperand.TheVariants.{Column, Constant}

-- the comparison for an operator
abbrev pub cmp_of : CompareOp → CmpOp
cmp_of sign.Eq = Eq
cmp_of sign.Ne = Ne
cmp_of sign.Lt = Lt
cmp_of sign.Le = Le
cmp_of sign.Gt = Gt
cmp_of sign.Ge = Ge

-- the operator that gives the same result with the two sides exchanged
abbrev pub mirrored : CompareOp → CompareOp
mirrored sign.Eq = sign.Eq
mirrored sign.Ne = sign.Ne
mirrored sign.Lt = sign.Gt
mirrored sign.Le = sign.Ge
mirrored sign.Gt = sign.Lt
mirrored sign.Ge = sign.Le

-- the truth of a plan in slot i, dead or live
abbrev pub truth_in : Plan → List Slot → ℕ → TruthValue
truth_in plan slots i = truth_by plan (slot_at slots i).row

-- an operand's value at slot i; a column is null past the last slot
abbrev pub operand_at : SlotOperand → ℕ → Value
operand_at (Column column) i = values.value_at column.now.values i
operand_at (Constant value) i = value

-- a column has as many values as there are slots
abbrev pub IsOperandOf : ℕ → SlotOperand → Type 0
IsOperandOf n (Column column) = length column.now.values ≡ n
IsOperandOf n (Constant value) = Unit {0}
