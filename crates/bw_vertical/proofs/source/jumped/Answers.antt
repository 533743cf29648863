use Rattle.std.proofs.Common.{arith, drop, length, subst, take, ◌+◌, ◌-◌, ◌<◌, ◌≡◌, ◌≤◌}
use Rattle.std.proofs.Math.Nat.{div-mul-le_self, lt-div-mul-add}
use Rattle.std.proofs.lemmas.List.{length-drop, length-take}
use Rattle.bw_vertical.specs.Storage.{HoldsUnits, lists}
use Rattle.bw_vertical.proofs.Holding.{held_past}
use Rattle.bw_vertical.proofs.source.jumped.Goals as goal

pub returns-clause-stands : goal.returns-clause-stands
returns-clause-stands c =
    let k = c.args.k in
    let gs = lists c.args.groups.now in
    let e = c.at_group-group.ensures in
    let r = c.at_group-group.result in
    let start : c.place-segment.result.1 ≤ c.args.i = omega (arith, c.place-segment.ensures.start, div-mul-le_self c.args.i k) in
    let from : r.next ≤ c.args.i = omega (arith, e.next, start) in
    let to : c.args.i - r.next < length r.rest.now = omega (arith, e.next, e.count, start, c.place-segment.ensures.start, lt-div-mul-add {a = c.args.i} {b = k} c.requires.some) in
    let unit : r.next + (c.args.i - r.next) ≡ c.args.i = omega (arith, from) in
    let left = held_past k r.next (c.args.i - r.next) gs r.rest.now e.stands.units in
    record {
      start_is = e.stands.start_is;
      small = e.stands.small;
      within = e.stands.within;
      ahead = e.stands.ahead;
      units = subst (HoldsUnits k gs (take (length r.rest.now - (c.args.i - r.next)) (drop (c.args.i - r.next) r.rest.now))) unit left;
      end = omega (arith, e.stands.end, from, length-take (length r.rest.now - (c.args.i - r.next)) (drop (c.args.i - r.next) r.rest.now), length-drop (c.args.i - r.next) r.rest.now, to);
    }
