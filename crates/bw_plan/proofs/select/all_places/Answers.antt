use Rattle.std.proofs.Common.{◌<◌, ◌≤◌, arith, length}
use Rattle.bw_plan.proofs.Places.{all_places_are, next_place}
use Rattle.bw_plan.proofs.select.all_places.Goals as goal

pub loop-place-preserved : goal.loop-place-preserved
loop-place-preserved c =
    let within : c.loop-place.place < length c.args.headers.now = omega (arith, c.loop-place-test.true, c.len-place-end.ensures.count) in
    rw c.in_ok-push.ensures.items (next_place c.args.headers.now c.loop-place.places.items c.loop-place.place c.len-place-end.ensures.valid within c.loop-place.invariant)

pub returns : goal.returns
returns c =
    let upto : c.loop-place.place ≤ length c.args.headers.now = omega (arith, c.loop-place.auto.place-end, c.len-place-end.ensures.count) in
    let whole : length c.args.headers.now ≤ c.loop-place.place = omega (arith, c.loop-place-test.false, c.len-place-end.ensures.count) in
    all_places_are c.args.headers.now c.loop-place.places.items c.loop-place.place upto whole c.loop-place.invariant
