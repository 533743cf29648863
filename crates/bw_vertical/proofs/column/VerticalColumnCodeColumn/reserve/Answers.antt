use Rattle.std.proofs.Common.{ap, arith, refl, ◌^◌, ◌*◌, ◌+◌, ◌-◌, ◌≡◌, ◌≤◌}
use Rattle.std.proofs.lemmas.Result.{on_ok_weaker}
use Rattle.bw_code.specs.Units.{segments_of}
use Rattle.bw_vertical.specs.Storage.{capacities, lists, planes_in}
use Rattle.bw_vertical.proofs.Holding.{codes_len}
use Rattle.bw_vertical.proofs.Rooms.{room_for, room_more}
use Rattle.bw_vertical.proofs.column.VerticalColumnCodeColumn.reserve.Goals as goal

pub returns-clause-room : goal.returns-clause-room
returns-clause-room c =
    let k = c.self.inside.width in
    let n = c.self.inside.len in
    let few : n + c.args.more ≤ 2 ^ 24 = grind (arith, codes_len) in
    let s = segments_of 256 (n + c.args.more) in
    let caps = capacities c.reserve_segments.new.groups.items in
    let parts : segments_of 256 n + (c.div_ceil.result - c.div_ceil-2.result) ≡ s = omega (arith, c.div_ceil.ensures, c.div_ceil-2.ensures) in
    rw (← c.self.view_is) (on_ok_weaker c.reserve_segments.result (λ room.
    let fits = room_for k s caps (omega arith) (λ g h. omega (arith, room g h, c.self.invariant.sizes g h, ap (λ m. m * planes_in k g) parts)) in
    omega (arith, fits, codes_len k n (lists c.self.inside.groups.items))) c.reserve_segments.ensures.room)

pub returns-clause-shape : goal.returns-clause-shape
returns-clause-shape c =
    rw (← c.self.view_is) (record {
      width = refl;
      room = room_more c.self.inside.width (capacities c.self.inside.groups.items) (capacities c.reserve_segments.new.groups.items) c.reserve_segments.ensures.capacities;
    })
