use Rattle.bw_mask.specs.Masks.{row_at}
use Rattle.bw_plan.specs.declared.select.FunctionPlan.TheVariants as function
use Rattle.bw_engine.specs.Folds.{number_by}
use Rattle.bw_engine.specs.Found.{rows_where}
use Rattle.bw_engine.specs.Stores.{rows_of_slots}
use Rattle.bw_engine.proofs.Folding.{numbers_more}
use Rattle.bw_engine.proofs.set_functions.numbers.Goals as goal

pub loop-i-preserved : goal.loop-i-preserved
loop-i-preserved c =
    let said = number_by (rows_where (row_at c.args.found.now) (rows_of_slots c.args.table.now.slots)) in
    record {
      numbers =
          numbers_more said c.args.functions.now c.loop-i.i function.CountRows c.loop-i.numbers.items c.push.new.self.items c.in_ok-number.number c.loop-i-test.true c.loop-i.invariant.numbers c.in_ok-push.ensures.items
          (c.in_ok-number.ensures.number function.CountRows);
      told = c.in_ok-number.ensures.told;
    }
