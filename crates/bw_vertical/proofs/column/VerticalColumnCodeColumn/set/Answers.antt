use Rattle.std.proofs.Common.{ap, arith, refl, ◌/◌, ◌<◌, ◌^◌, ◌≡◌}
use Rattle.bw_code.specs.Columns.{CodeList}
use Rattle.bw_vertical.specs.Storage.{capacities, lists}
use Rattle.bw_vertical.proofs.Holding.{codes_len, codes_set, has_segment, held_set}
use Rattle.bw_vertical.proofs.Rooms.{room_more}
use Rattle.bw_vertical.proofs.column.VerticalColumnCodeColumn.set.Goals as goal

pub put_code-requires-clause-there : goal.put_code-requires-clause-there
put_code-requires-clause-there c =
    let low : c.args.i < c.self.inside.len = grind (arith, codes_len) in
    has_segment c.self.inside.width c.self.inside.len (lists c.self.inside.groups.items) c.self.invariant (c.args.i / 256) (omega (arith, low))

pub invariant_of-self : goal.invariant_of-self
invariant_of-self c =
    let low : c.args.i < c.self.inside.len = grind (arith, codes_len) in
    held_set c.self.inside.width c.self.inside.len c.put_code.new.groups.items c.self.inside.groups.items c.self.invariant c.put_code.ensures.sizes (λ i j h l. c.put_code.ensures.other i j h (λ e. omega (arith, l, e, low)))

pub returns-clause-shape : goal.returns-clause-shape
returns-clause-shape c =
    rw (← c.self.view_is) (record {
      width = refl;
      room = room_more c.self.inside.width (capacities c.self.inside.groups.items) (capacities c.put_code.new.groups.items) c.put_code.ensures.sizes.capacities;
    })

pub returns-clause-codes : goal.returns-clause-codes
returns-clause-codes c =
    let low : c.args.i < c.self.inside.len = grind (arith, codes_len) in
    let wide : c.self.inside.width ≡ c.args.self.now.width = ap (λ (v : CodeList). v.width) c.self.view_is in
    let small : c.args.code < 2 ^ c.self.inside.width = rw wide c.requires.fits in
    rw (← c.self.view_is) (codes_set c.self.inside.width c.self.inside.len c.args.i c.args.code (lists c.self.inside.groups.items) (lists c.put_code.new.groups.items) small low c.put_code.ensures.same c.put_code.ensures.other)
