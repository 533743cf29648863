use Rattle.std.proofs.Common.{ap, length, map, not, refl, sym, ℕ, ◌&&◌, ◌≡◌, ◌∙◌}
use Rattle.std.proofs.lemmas.List.{drop_all, length-replicate}
use Rattle.bw_mask.specs.Masks.{len, row_at}
use Rattle.bw_mask.specs.Truth.{and_of, is_value, or_of}
use Rattle.bw_mask.specs.Truths.{truth_at}
use Rattle.bw_mask.specs.declared.truth_value.TruthValue.TheVariants.{False, True, Unknown}
use Rattle.bw_mask.proofs.Tables.{and_of_True, or_of_False}
use Rattle.bw_code.specs.Meters.{raised}
use Rattle.bw_model.specs.Store.{Row}
use Rattle.bw_table.specs.Slots.{slot_at}
use Rattle.bw_plan.specs.Costs.{units_of_each, units_of_some}
use Rattle.bw_plan.specs.Operands.{truth_in}
use Rattle.bw_plan.specs.Plans.{each_by, plan_of, plans_of, some_by, truth_by}
use Rattle.bw_plan.proofs.PlanLaws.{each_split, some_split}
use Rattle.bw_plan.proofs.Shrinking.{and_leaves, and_open, and_settles, open_last, open_first, open_next, or_leaves, or_open, or_settles, rest_first, rest_next}
use Rattle.bw_plan.proofs.Spending.{each_units, others, raised_within, some_units}
use Rattle.bw_plan.proofs.evaluation.+condition.Goals as goal

pub set_each-loop-part-init : goal.set_each-loop-part-init
set_each-loop-part-init t c =
    let row : ℕ → Row = λ i. (slot_at c.args.slots.now.slots i).row in
    let parts = c.args.parts.now in
    let are = c.in_ok-set_truth.ensures.truths in
    let left : (i : ℕ) → row_at c.andnot_in.new.self i ≡ (row_at c.in_ok-rest.rest i && not (is_value (truth_at c.set_truth.new.truth i) False)) = λ i. c.andnot_in.ensures.rows i ∙ ap (λ b. row_at c.in_ok-rest.rest i && not b) (c.falses.ensures.rows i) in
    let said_len : length c.in_ok-said.said ≡ len c.args.need.now = ap length c.in_ok-said.ensures ∙ length-replicate c.len.result Unknown ∙ c.len.ensures.count ∙ sym c.requires.need in
    let tail = others parts c.in-len1-up.len_at_least in
    record {
      open_rows = open_first and_of True False c.args.need.now _ c.in_ok-rest.rest c.andnot_in.new.self _ _ c.in_ok-said.said _ c.in_ok-rest.ensures are said_len c.andnot_in.ensures.shape.0 left
          (λ i. ap (λ l. and_of (truth_by (plan_of c.first-item.result) (row i)) (each_by (plans_of (map plan_of l)) (row i))) tail ∙ sym (each_split parts 0 _ _ (row i) c.in-len1-up.len_at_least c.first-item.is));
      units = ap (λ l. raised c.set_truth.new.meter (units_of_each (plans_of (map plan_of l)) c.args.slots.now (row_at c.andnot_in.new.self))) tail
          ∙ each_units c.args.slots.now parts 0 _ _ (row_at c.args.need.now) _ _ _ c.in-len1-up.len_at_least c.first-item.is
          (rest_first and_of True False c.args.need.now (λ i. truth_in (plan_of c.first-item.result) c.args.slots.now.slots i) c.in_ok-rest.rest c.andnot_in.new.self _ (λ i. True) c.in_ok-said.said _ c.in_ok-rest.ensures are said_len c.andnot_in.ensures.shape.0 left)
          c.in_ok-set_truth.ensures.units;
      within = raised_within _ _ _ c.in_ok-set_truth.ensures.units;
    }

pub set_each-loop-part-preserved : goal.set_each-loop-part-preserved
set_each-loop-part-preserved t c =
    let row : ℕ → Row = λ i. (slot_at c.args.slots.now.slots i).row in
    let rest = c.loop-part.rest in
    let so = c.loop-part.invariant.open_rows in
    let are = c.in_ok-set_truth-2.ensures.truths in
    let left : (i : ℕ) → row_at c.andnot_in-in-loop-part.new.self i ≡ (row_at rest i && not (is_value (truth_at c.and_in.new.self i) False)) = λ i. c.andnot_in-in-loop-part.ensures.rows i ∙ ap (λ b. row_at rest i && not b) (c.falses-in-loop-part.ensures.rows i) in
    record {
      open_rows = open_next and_of True False c.args.need.now _ and_settles and_open refl rest c.andnot_in-in-loop-part.new.self _ _ _ _ _ _ _ so are (λ i. each_split _ _ _ _ (row i) c.loop-part-test.true c.part-item.is) c.and_in.ensures.len c.and_in.ensures.rows c.andnot_in-in-loop-part.ensures.shape.0 left;
      units = each_units c.args.slots.now _ _ _ _ (row_at rest) _ _ _ c.loop-part-test.true c.part-item.is
          (rest_next and_of True False c.args.need.now _ and_leaves rest c.andnot_in-in-loop-part.new.self _ _ _ _ _ _ so are c.and_in.ensures.rows left)
          c.in_ok-set_truth-2.ensures.units
          ∙ c.loop-part.invariant.units;
      within = raised_within _ _ _ c.in_ok-set_truth-2.ensures.units;
    }

pub set_each-returns-clause-truths : goal.set_each-returns-clause-truths
set_each-returns-clause-truths t c =
    let row : ℕ → Row = λ i. (slot_at c.args.slots.now.slots i).row in
    open_last and_of True False c.args.need.now _ and_of_True c.loop-part.rest _ c.loop-part.said c.loop-part.truth c.loop-part.invariant.open_rows
    (λ i. ap (λ parts. each_by (plans_of (map plan_of parts)) (row i)) (drop_all c.loop-part.part-index _ c.loop-part-test.false))

pub set_some-loop-part-init : goal.set_some-loop-part-init
set_some-loop-part-init t c =
    let row : ℕ → Row = λ i. (slot_at c.args.slots.now.slots i).row in
    let parts = c.args.parts.now in
    let are = c.in_ok-set_truth.ensures.truths in
    let left : (i : ℕ) → row_at c.andnot_in.new.self i ≡ (row_at c.in_ok-rest.rest i && not (is_value (truth_at c.set_truth.new.truth i) True)) = λ i. c.andnot_in.ensures.rows i ∙ ap (λ b. row_at c.in_ok-rest.rest i && not b) (c.trues.ensures.rows i) in
    let said_len : length c.in_ok-said.said ≡ len c.args.need.now = ap length c.in_ok-said.ensures ∙ length-replicate c.len.result Unknown ∙ c.len.ensures.count ∙ sym c.requires.need in
    let tail = others parts c.in-len1-up.len_at_least in
    record {
      open_rows = open_first or_of False True c.args.need.now _ c.in_ok-rest.rest c.andnot_in.new.self _ _ c.in_ok-said.said _ c.in_ok-rest.ensures are said_len c.andnot_in.ensures.shape.0 left
          (λ i. ap (λ l. or_of (truth_by (plan_of c.first-item.result) (row i)) (some_by (plans_of (map plan_of l)) (row i))) tail ∙ sym (some_split parts 0 _ _ (row i) c.in-len1-up.len_at_least c.first-item.is));
      units = ap (λ l. raised c.set_truth.new.meter (units_of_some (plans_of (map plan_of l)) c.args.slots.now (row_at c.andnot_in.new.self))) tail
          ∙ some_units c.args.slots.now parts 0 _ _ (row_at c.args.need.now) _ _ _ c.in-len1-up.len_at_least c.first-item.is
          (rest_first or_of False True c.args.need.now (λ i. truth_in (plan_of c.first-item.result) c.args.slots.now.slots i) c.in_ok-rest.rest c.andnot_in.new.self _ (λ i. False) c.in_ok-said.said _ c.in_ok-rest.ensures are said_len c.andnot_in.ensures.shape.0 left)
          c.in_ok-set_truth.ensures.units;
      within = raised_within _ _ _ c.in_ok-set_truth.ensures.units;
    }

pub set_some-loop-part-preserved : goal.set_some-loop-part-preserved
set_some-loop-part-preserved t c =
    let row : ℕ → Row = λ i. (slot_at c.args.slots.now.slots i).row in
    let rest = c.loop-part.rest in
    let so = c.loop-part.invariant.open_rows in
    let are = c.in_ok-set_truth-2.ensures.truths in
    let left : (i : ℕ) → row_at c.andnot_in-in-loop-part.new.self i ≡ (row_at rest i && not (is_value (truth_at c.or_in.new.self i) True)) = λ i. c.andnot_in-in-loop-part.ensures.rows i ∙ ap (λ b. row_at rest i && not b) (c.trues-in-loop-part.ensures.rows i) in
    record {
      open_rows = open_next or_of False True c.args.need.now _ or_settles or_open refl rest c.andnot_in-in-loop-part.new.self _ _ _ _ _ _ _ so are (λ i. some_split _ _ _ _ (row i) c.loop-part-test.true c.part-item.is) c.or_in.ensures.len c.or_in.ensures.rows c.andnot_in-in-loop-part.ensures.shape.0 left;
      units = some_units c.args.slots.now _ _ _ _ (row_at rest) _ _ _ c.loop-part-test.true c.part-item.is
          (rest_next or_of False True c.args.need.now _ or_leaves rest c.andnot_in-in-loop-part.new.self _ _ _ _ _ _ so are c.or_in.ensures.rows left)
          c.in_ok-set_truth-2.ensures.units
          ∙ c.loop-part.invariant.units;
      within = raised_within _ _ _ c.in_ok-set_truth-2.ensures.units;
    }

pub set_some-returns-clause-truths : goal.set_some-returns-clause-truths
set_some-returns-clause-truths t c =
    let row : ℕ → Row = λ i. (slot_at c.args.slots.now.slots i).row in
    open_last or_of False True c.args.need.now _ or_of_False c.loop-part.rest _ c.loop-part.said c.loop-part.truth c.loop-part.invariant.open_rows
    (λ i. ap (λ parts. some_by (plans_of (map plan_of parts)) (row i)) (drop_all c.loop-part.part-index _ c.loop-part-test.false))
