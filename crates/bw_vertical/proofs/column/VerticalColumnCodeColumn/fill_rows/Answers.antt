use Rattle.std.proofs.Common.{ap, arith, refl, sym, ◌<◌, ◌^◌, ◌∙◌, ◌≡◌}
use Rattle.bw_mask.specs.Masks.{len}
use Rattle.bw_code.specs.Columns.{count}
use Rattle.bw_vertical.specs.Storage.{capacities, lists}
use Rattle.bw_vertical.proofs.Filled.{codes_filled, rest_unfilled}
use Rattle.bw_vertical.proofs.Holding.{codes_len, held_set}
use Rattle.bw_vertical.proofs.Rooms.{room_more}
use Rattle.bw_vertical.proofs.column.VerticalColumnCodeColumn.fill_rows.Goals as goal

pub fill_codes-requires-clause-rows : goal.fill_codes-requires-clause-rows
fill_codes-requires-clause-rows c =
    let s = c.self.inside in
    c.requires.rows ∙ ap count (sym c.self.view_is) ∙ codes_len s.width s.len (lists s.groups.items)

pub invariant_of-self : goal.invariant_of-self
invariant_of-self c =
    let s = c.self.inside in
    let long : len c.args.rows.now ≡ s.len = c.requires.rows ∙ ap count (sym c.self.view_is) ∙ codes_len s.width s.len (lists s.groups.items) in
    let small : c.args.code < 2 ^ s.width = rw (← c.self.view_is) at c.requires.fits in
    held_set s.width s.len c.fill_codes.new.groups.items s.groups.items c.self.invariant c.fill_codes.ensures.sizes
    (rest_unfilled s.width s.len c.args.code small (lists s.groups.items) (lists c.fill_codes.new.groups.items) c.args.rows.now c.fill_codes.ensures.codes long)

pub returns-clause-shape : goal.returns-clause-shape
returns-clause-shape c =
    rw (← c.self.view_is) (record {
      width = refl;
      room = room_more c.self.inside.width (capacities c.self.inside.groups.items) (capacities c.fill_codes.new.groups.items) c.fill_codes.ensures.sizes.capacities;
    })

pub returns-clause-codes : goal.returns-clause-codes
returns-clause-codes c =
    let s = c.self.inside in
    let few = codes_len s.width s.len (lists s.groups.items) in
    let small : c.args.code < 2 ^ s.width = rw (← c.self.view_is) at c.requires.fits in
    rw (← c.self.view_is) (λ i h.
    codes_filled s.width s.len c.args.code small (lists s.groups.items) (lists c.fill_codes.new.groups.items) c.args.rows.now c.fill_codes.ensures.codes i (omega (arith, h, few)))
