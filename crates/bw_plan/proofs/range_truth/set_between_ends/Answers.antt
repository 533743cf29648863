use Rattle.std.proofs.Common.{Bool, List, ap, ap₂, false, get_or, not, sym, ℕ, ◌&&◌, ◌≡◌, ◌∙◌}
use Rattle.bw_mask.specs.Masks.{row_at}
use Rattle.bw_lex.specs.declared.token.CompareOp.TheVariants.{Ge, Le}
use Rattle.bw_model.specs.Condition.{compared}
use Rattle.bw_plan.specs.Operands.{operand_at}
use Rattle.bw_plan.proofs.Comparing.{both_hold}
use Rattle.bw_plan.specs.Costs.{read_at, reading_of}
use Rattle.bw_plan.proofs.Counting.{ends_units, read_is}
use Rattle.bw_plan.proofs.range_truth.set_between_ends.Goals as goal

pub returns-clause-truth : goal.returns-clause-truth
returns-clause-truth c =
    both_hold c.args.need.now c.andnot_in.new.self c.falses.result.now
    (λ i. compared Ge (operand_at c.args.value.now i) (operand_at c.args.low.now i)) (λ i. compared Le (operand_at c.args.value.now i) (operand_at c.args.high.now i))
    c.set_compared.new.truth c.set_compared-2.new.truth c.and_in.new.self c.set_compared.ensures.truth c.set_compared-2.ensures.truth c.falses.ensures.rows
    (λ i. c.andnot_in.ensures.rows i ∙ ap (λ (rows : List Bool). get_or rows i false && not (row_at c.falses.result.now i)) c.in_ok-rest.ensures)
    c.and_in.ensures.len c.and_in.ensures.rows

pub returns-clause-units : goal.returns-clause-units
returns-clause-units c =
    let rows : (i : ℕ) → row_at c.andnot_in.new.self i ≡ (row_at c.args.need.now i && not (row_at c.falses.result.now i)) =
    λ i. c.andnot_in.ensures.rows i ∙ ap (λ (rows : List Bool). get_or rows i false && not (row_at c.falses.result.now i)) c.in_ok-rest.ensures
    in
    ends_units c.args.need.now (λ i. compared Ge (operand_at c.args.value.now i) (operand_at c.args.low.now i)) c.andnot_in.new.self c.falses.result.now c.set_compared.new.truth
    c.set_compared.ensures.truth c.falses.ensures.rows rows
    (λ i. compared Ge (read_at (reading_of c.args.value.now) i) (read_at (reading_of c.args.low.now) i)) (reading_of c.args.value.now) (reading_of c.args.low.now) (reading_of c.args.high.now) Ge Le c.args.meter.now c.set_compared.new.meter c.set_compared-2.new.meter
    (λ i. sym (ap₂ (compared Ge) (read_is c.args.value.now i) (read_is c.args.low.now i))) c.set_compared.ensures.units c.set_compared-2.ensures.units
