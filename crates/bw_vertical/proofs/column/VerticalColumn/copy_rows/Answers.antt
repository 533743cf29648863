use Rattle.std.proofs.Common.{ap, arith, refl, subst, sym, ◌-ℤ◌, ◌∙◌, ◌≡◌}
use Rattle.bw_mask.specs.Masks.{len}
use Rattle.bw_code.specs.Columns.{count}
use Rattle.bw_vertical.specs.Storage.{AreGroups, capacities, lists}
use Rattle.bw_vertical.proofs.Copied.{codes_copied, rest_kept}
use Rattle.bw_vertical.proofs.Holding.{codes_len, held_set}
use Rattle.bw_vertical.proofs.Rooms.{room_more}
use Rattle.bw_vertical.proofs.Shifted.{word_is}
use Rattle.bw_vertical.proofs.column.VerticalColumn.copy_rows.Goals as goal

pub copy_codes-requires-clause-others : goal.copy_codes-requires-clause-others
copy_codes-requires-clause-others c =
    let s = c.self.inside in
    let o = c.other.inside in
    let same : o.len ≡ s.len =
    sym (codes_len o.width o.len (lists o.groups.items)) ∙ ap count c.other.view_is ∙ c.requires.count ∙ ap count (sym c.self.view_is) ∙ codes_len s.width s.len (lists s.groups.items) in
    rw c.deref.ensures.value (subst (AreGroups o.width (lists o.groups.items)) same c.other.invariant)

pub copy_codes-requires-clause-rows : goal.copy_codes-requires-clause-rows
copy_codes-requires-clause-rows c =
    let s = c.self.inside in
    c.requires.rows ∙ ap count (sym c.self.view_is) ∙ codes_len s.width s.len (lists s.groups.items)

pub invariant_of-self : goal.invariant_of-self
invariant_of-self c =
    let s = c.self.inside in
    let o = c.other.inside in
    let long : len c.args.rows.now ≡ s.len = c.requires.rows ∙ ap count (sym c.self.view_is) ∙ codes_len s.width s.len (lists s.groups.items) in
    held_set s.width s.len c.copy_codes.new.groups.items s.groups.items c.self.invariant c.copy_codes.ensures.sizes
    (rest_kept s.width o.width s.len (c.args.from -ℤ c.args.to) c.word_between-by.result c.self.invariant.narrow c.other.invariant.narrow (word_is c.args.from c.args.to c.word_between-by.result c.ranges.from c.ranges.to c.word_between-by.ensures)
    (lists s.groups.items) (lists c.copy_codes.new.groups.items) (lists c.deref.result.now) c.args.rows.now c.args.moved.now c.copy_codes.ensures.codes long)

pub returns-clause-shape : goal.returns-clause-shape
returns-clause-shape c =
    rw (← c.self.view_is) (record {
      width = refl;
      room = room_more c.self.inside.width (capacities c.self.inside.groups.items) (capacities c.copy_codes.new.groups.items) c.copy_codes.ensures.sizes.capacities;
    })

pub returns-clause-codes : goal.returns-clause-codes
returns-clause-codes c =
    let s = c.self.inside in
    let o = c.other.inside in
    let fit = rw (← c.self.view_is, ← c.other.view_is) at c.requires.fit in
    let few = codes_len s.width s.len (lists s.groups.items) in
    let same : o.len ≡ s.len =
    sym (codes_len o.width o.len (lists o.groups.items)) ∙ ap count c.other.view_is ∙ c.requires.count ∙ ap count (sym c.self.view_is) ∙ few in
    let others = rw c.deref.ensures.value at c.copy_codes.ensures.codes in
    rw (← c.self.view_is, ← c.other.view_is, same) (λ i h.
    codes_copied s.width o.width s.len (c.args.from -ℤ c.args.to) c.word_between-by.result c.self.invariant.narrow c.other.invariant.narrow (word_is c.args.from c.args.to c.word_between-by.result c.ranges.from c.ranges.to c.word_between-by.ensures)
    (lists s.groups.items) (lists c.copy_codes.new.groups.items) (lists o.groups.items) c.args.rows.now c.args.moved.now others i (omega (arith, h, few)) (rw same at (fit i h)))
