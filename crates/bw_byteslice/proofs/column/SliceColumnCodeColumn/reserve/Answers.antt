use Rattle.std.proofs.Common.{arith, length, ◌+◌, ◌<◌, ◌≡◌, ◌≤◌}
use Rattle.std.proofs.lemmas.Result.{on_ok_weaker}
use Rattle.bw_byteslice.proofs.Views.{capacity_count, count_is, room_is, width_is}
use Rattle.bw_byteslice.proofs.Rooms.{room_enough, room_more}
use Rattle.bw_byteslice.specs.Storing.{capacities_of, room_of}
use Rattle.bw_byteslice.proofs.column.SliceColumnCodeColumn.reserve.Goals as goal

pub whole_segments-requires : goal.whole_segments-requires
whole_segments-requires c = omega (arith, count_is c.self.inside.width c.self.inside.len c.self.inside.slices.items c.args.self.now c.self.invariant c.self.view_is, c.requires)

pub returns-clause-room : goal.returns-clause-room
returns-clause-room c =
    let count = count_is c.self.inside.width c.self.inside.len c.self.inside.slices.items c.args.self.now c.self.invariant c.self.view_is in
    let capacities = capacities_of c.reserve.new.slices.items in
    on_ok_weaker c.reserve.result
    (λ each.
    let enough : c.self.inside.len + c.args.more ≤ room_of capacities =
    room_enough capacities (c.self.inside.len + c.args.more) (omega (arith, count, c.requires)) (λ i h.
    let low : i < c.self.inside.slices.len = omega (arith, h, capacity_count c.reserve.new.slices.items, c.reserve.ensures.count) in
    omega (arith, each i low, c.whole_segments.ensures)) in
    omega (arith, enough, count))
    c.reserve.ensures.room

pub returns-clause-shape : goal.returns-clause-shape
returns-clause-shape c =
    let same : length (capacities_of c.self.inside.slices.items) ≡ length (capacities_of c.reserve.new.slices.items) = omega (arith, capacity_count c.self.inside.slices.items, capacity_count c.reserve.new.slices.items, c.reserve.ensures.count) in
    record {
      width = width_is c.self.inside.width c.self.inside.len c.self.inside.slices.items c.args.self.now c.self.invariant c.self.view_is;
      room = omega (arith, room_is c.self.inside.width c.self.inside.len c.self.inside.slices.items c.args.self.now c.self.invariant c.self.view_is, room_more (capacities_of c.self.inside.slices.items) (capacities_of c.reserve.new.slices.items) same c.reserve.ensures.capacities);
    }
