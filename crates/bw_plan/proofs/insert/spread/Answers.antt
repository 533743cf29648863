use Rattle.std.proofs.Common.{ap, length, map}
use Rattle.bw_model.specs.Store.{value_from}
use Rattle.bw_plan.proofs.Lines.{nonempty, walk_goes_on}
use Rattle.bw_plan.proofs.insert.spread.Goals as goal

pub loop-rest-preserved : goal.loop-rest-preserved
loop-rest-preserved c =
    rw (c.split_at.ensures.back, c.in_ok-place.ensures)
    (walk_goes_on _ _ _ c.loop-rest.rest.now c.loop-rest.cells.items _ c.loop-rest.invariant
    (nonempty (length c.loop-rest.rest.now) c.is_empty.result c.is_empty.ensures c.loop-rest-test.true)
    (ap (λ row. map (value_from row) c.args.sources.now) c.split_at.ensures.front))
