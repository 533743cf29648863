use Rattle.std.proofs.Common.{ap, arith, refl, subst, sym, ◌∙◌, ◌≡◌}
use Rattle.bw_mask.specs.Masks.{len}
use Rattle.bw_code.specs.Columns.{CodeList, count}
use Rattle.bw_vertical.specs.Storage.{AreGroups, capacities, lists}
use Rattle.bw_vertical.proofs.Exchanged.{codes_taken, rest_untaken}
use Rattle.bw_vertical.proofs.Holding.{codes_len, held_set}
use Rattle.bw_vertical.proofs.Rooms.{room_more}
use Rattle.bw_vertical.proofs.column.VerticalColumnCodeColumn.exchange_rows.Goals as goal

pub exchange_codes-requires-clause-other_planes : goal.exchange_codes-requires-clause-other_planes
exchange_codes-requires-clause-other_planes c =
    let s = c.self.inside in
    let o = c.other.inside in
    let same : o.len ≡ s.len =
    sym (codes_len o.width o.len (lists o.groups.items)) ∙ ap count c.other.view_is ∙ c.requires.other ∙ ap count (sym c.self.view_is) ∙ codes_len s.width s.len (lists s.groups.items) in
    let wide : o.width ≡ s.width = ap (λ (v : CodeList). v.width) c.other.view_is ∙ c.requires.width ∙ ap (λ (v : CodeList). v.width) (sym c.self.view_is) in
    subst (λ k. AreGroups k (lists o.groups.items) s.len) wide (subst (AreGroups o.width (lists o.groups.items)) same c.other.invariant)

pub exchange_codes-requires-clause-rows : goal.exchange_codes-requires-clause-rows
exchange_codes-requires-clause-rows c =
    let s = c.self.inside in
    c.requires.rows ∙ ap count (sym c.self.view_is) ∙ codes_len s.width s.len (lists s.groups.items)

pub invariant_of-self : goal.invariant_of-self
invariant_of-self c =
    let s = c.self.inside in
    let o = c.other.inside in
    let long : len c.args.rows.now ≡ s.len = c.requires.rows ∙ ap count (sym c.self.view_is) ∙ codes_len s.width s.len (lists s.groups.items) in
    held_set s.width s.len c.exchange_codes.new.groups.items s.groups.items c.self.invariant c.exchange_codes.ensures.sizes
    (rest_untaken s.width s.len (lists s.groups.items) (lists c.exchange_codes.new.groups.items) (lists o.groups.items) c.args.rows.now c.exchange_codes.ensures.own long)

pub returns-clause-shape : goal.returns-clause-shape
returns-clause-shape c =
    rw (← c.self.view_is) (record {
      width = refl;
      room = room_more c.self.inside.width (capacities c.self.inside.groups.items) (capacities c.exchange_codes.new.groups.items) c.exchange_codes.ensures.sizes.capacities;
    })

pub returns-clause-other_shape : goal.returns-clause-other_shape
returns-clause-other_shape c =
    rw (← c.other.view_is) (record {
      width = refl;
      room = room_more c.other.inside.width (capacities c.other.inside.groups.items) (capacities c.exchange_codes.new.others.items) c.exchange_codes.ensures.other_sizes.capacities;
    })

pub invariant_of-other : goal.invariant_of-other
invariant_of-other c =
    let s = c.self.inside in
    let o = c.other.inside in
    let wide : s.width ≡ o.width = ap (λ (v : CodeList). v.width) c.self.view_is ∙ sym c.requires.width ∙ ap (λ (v : CodeList). v.width) (sym c.other.view_is) in
    let long : len c.args.rows.now ≡ o.len = c.requires.rows ∙ sym c.requires.other ∙ ap count (sym c.other.view_is) ∙ codes_len o.width o.len (lists o.groups.items) in
    let theirs = rw wide at c.exchange_codes.ensures.others in
    held_set o.width o.len c.exchange_codes.new.others.items o.groups.items c.other.invariant c.exchange_codes.ensures.other_sizes
    (rest_untaken o.width o.len (lists o.groups.items) (lists c.exchange_codes.new.others.items) (lists s.groups.items) c.args.rows.now theirs long)

pub returns-clause-codes : goal.returns-clause-codes
returns-clause-codes c =
    let s = c.self.inside in
    let o = c.other.inside in
    let few = codes_len s.width s.len (lists s.groups.items) in
    let same : o.len ≡ s.len =
    sym (codes_len o.width o.len (lists o.groups.items)) ∙ ap count c.other.view_is ∙ c.requires.other ∙ ap count (sym c.self.view_is) ∙ few in
    let wide : o.width ≡ s.width = ap (λ (v : CodeList). v.width) c.other.view_is ∙ c.requires.width ∙ ap (λ (v : CodeList). v.width) (sym c.self.view_is) in
    rw (← c.self.view_is, ← c.other.view_is, same, wide) (λ i h.
    codes_taken s.width s.len (lists s.groups.items) (lists c.exchange_codes.new.groups.items) (lists o.groups.items) c.args.rows.now c.exchange_codes.ensures.own i (omega (arith, h, few)))

pub returns-clause-others : goal.returns-clause-others
returns-clause-others c =
    let s = c.self.inside in
    let o = c.other.inside in
    let few = codes_len s.width s.len (lists s.groups.items) in
    let same : o.len ≡ s.len =
    sym (codes_len o.width o.len (lists o.groups.items)) ∙ ap count c.other.view_is ∙ c.requires.other ∙ ap count (sym c.self.view_is) ∙ few in
    let wide : o.width ≡ s.width = ap (λ (v : CodeList). v.width) c.other.view_is ∙ c.requires.width ∙ ap (λ (v : CodeList). v.width) (sym c.self.view_is) in
    rw (← c.self.view_is, ← c.other.view_is, same, wide) (λ i h.
    codes_taken s.width s.len (lists o.groups.items) (lists c.exchange_codes.new.others.items) (lists s.groups.items) c.args.rows.now c.exchange_codes.ensures.others i (omega (arith, h, few)))
