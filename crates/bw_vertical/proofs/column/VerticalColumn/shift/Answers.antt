use Rattle.std.proofs.Common.{ap, arith, refl, sym, ◌-ℤ◌, ◌∙◌, ◌≡◌}
use Rattle.bw_mask.specs.Masks.{len}
use Rattle.bw_code.specs.Columns.{count}
use Rattle.bw_vertical.specs.Storage.{capacities, lists}
use Rattle.bw_vertical.proofs.Holding.{codes_len, held_set}
use Rattle.bw_vertical.proofs.Rooms.{room_more}
use Rattle.bw_vertical.proofs.Shifted.{codes_shifted, rest_same, word_is}
use Rattle.bw_vertical.proofs.column.VerticalColumn.shift.Goals as goal

pub shift_codes-requires-clause-rows : goal.shift_codes-requires-clause-rows
shift_codes-requires-clause-rows c =
    let s = c.self.inside in
    c.requires.rows ∙ ap count (sym c.self.view_is) ∙ codes_len s.width s.len (lists s.groups.items)

pub invariant_of-self : goal.invariant_of-self
invariant_of-self c =
    let s = c.self.inside in
    let long : len c.args.rows.now ≡ s.len = c.requires.rows ∙ ap count (sym c.self.view_is) ∙ codes_len s.width s.len (lists s.groups.items) in
    held_set s.width s.len c.shift_codes.new.groups.items s.groups.items c.self.invariant c.shift_codes.ensures.sizes
    (rest_same s.width (c.args.from -ℤ c.args.to) c.word_between.result c.self.invariant.narrow (word_is c.args.from c.args.to c.word_between.result c.ranges.from c.ranges.to c.word_between.ensures) s.len (lists s.groups.items) (lists c.shift_codes.new.groups.items) c.args.rows.now c.shift_codes.ensures.codes long)

pub returns-clause-shape : goal.returns-clause-shape
returns-clause-shape c =
    rw (← c.self.view_is) (record {
      width = refl;
      room = room_more c.self.inside.width (capacities c.self.inside.groups.items) (capacities c.shift_codes.new.groups.items) c.shift_codes.ensures.sizes.capacities;
    })

pub returns-clause-codes : goal.returns-clause-codes
returns-clause-codes c =
    let s = c.self.inside in
    let fit = rw (← c.self.view_is) at c.requires.fit in
    let few = codes_len s.width s.len (lists s.groups.items) in
    rw (← c.self.view_is) (λ i h.
    codes_shifted s.width (c.args.from -ℤ c.args.to) c.word_between.result c.self.invariant.narrow (word_is c.args.from c.args.to c.word_between.result c.ranges.from c.ranges.to c.word_between.ensures)
    s.len (lists s.groups.items) (lists c.shift_codes.new.groups.items) c.args.rows.now c.shift_codes.ensures.codes i (omega (arith, h, few)) (fit i h))
