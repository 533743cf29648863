use Rattle.bw_plan.proofs.Selecting.{places_more, there_at}
use Rattle.bw_plan.proofs.select.places_in.Goals as goal

pub put_place-requires : goal.put_place-requires
put_place-requires c = there_at c.args.headers.now c.args.list.now c.loop-item.item-index c.item-item.result c.loop-item-test.true c.item-item.is c.requires

pub loop-item-preserved : goal.loop-item-preserved
loop-item-preserved c =
    rw (c.in_ok-put_place.ensures, c.loop-item.invariant)
    (places_more c.args.headers.now c.args.list.now c.loop-item.item-index c.item-item.result c.loop-item-test.true c.item-item.is)
