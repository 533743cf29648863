use Rattle.std.proofs.Common.{Some, ap, arith, pos, slice_index_or, to_z, ◌≡◌, ◌∙◌}
use Rattle.std.specs.Int.{w128}
use Rattle.std.proofs.lemmas.Int.{ints}
use Rattle.bw_plan.specs.declared.select.FunctionPlan.TheVariants as function
use Rattle.bw_engine.proofs.Folding.{found_rows_count, same_entry}
use Rattle.bw_engine.proofs.set_functions.number.Goals as goal

pub returns-in-CountRows-clause-number : goal.returns-in-CountRows-clause-number
returns-in-CountRows-clause-number c d =
    let wide : to_z w128 c.count.result ≡ pos c.count.result = omega (arith, ints, c.count.ensures.few) in
    let at : slice_index_or c.args.functions.now c.args.i d ≡ function.CountRows = same_entry c.args.functions.now c.args.i d function.CountRows c.requires.inside ∙ c.in-CountRows.is in
    rw at (ap Some (wide ∙ ap pos (c.count.ensures.rows ∙ found_rows_count c.args.table.now.slots c.args.found.now c.requires.found)))
