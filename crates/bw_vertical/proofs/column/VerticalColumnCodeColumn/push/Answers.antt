use Rattle.std.proofs.Common.{[], ◌∷◌, ap, arith, get_or, refl, sym, ◌%◌, ◌+◌, ◌-◌, ◌/◌, ◌<◌, ◌^◌, ◌≡◌, ◌∙◌}
use Rattle.bw_mask.specs.Masks.{bit_of}
use Rattle.bw_code.specs.Columns.{CodeList}
use Rattle.bw_vertical.specs.Storage.{capacities, is_set, lists}
use Rattle.bw_vertical.proofs.Holding.{codes_len, codes_more, held_more}
use Rattle.bw_vertical.proofs.Rooms.{room_more}
use Rattle.bw_vertical.proofs.column.VerticalColumnCodeColumn.push.Goals as goal

pub invariant_of-self : goal.invariant_of-self
invariant_of-self c =
    let k = c.self.inside.width in
    let n = c.self.inside.len in
    let few : n < 2 ^ 24 = grind (arith, codes_len) in
    held_more k n (n + 1) c.put_code.new.groups.items c.begin_segment.new.groups.items c.self.inside.groups.items c.self.invariant (omega (arith, few)) (omega arith) (omega (arith, c.begin_segment.ensures.count)) c.begin_segment.ensures.sizes c.put_code.ensures.sizes
    (λ i j h l. c.put_code.ensures.other i j h (λ e. omega (arith, l, e)) ∙ ap (λ w. bit_of w (j % 64)) (c.begin_segment.ensures.words i (j / 64)) ∙ c.self.invariant.clean i j h (omega (arith, l)))

pub returns-clause-shape : goal.returns-clause-shape
returns-clause-shape c =
    rw (← c.self.view_is) (record {
      width = refl;
      room = room_more c.self.inside.width (capacities c.self.inside.groups.items) (capacities c.put_code.new.groups.items) (λ g. omega (arith, c.begin_segment.ensures.capacities g, c.put_code.ensures.sizes.capacities g));
    })

pub returns-clause-codes : goal.returns-clause-codes
returns-clause-codes c =
    let k = c.self.inside.width in
    let n = c.self.inside.len in
    let new = lists c.put_code.new.groups.items in
    let wide : c.self.inside.width ≡ c.args.self.now.width = ap (λ (v : CodeList). v.width) c.self.view_is in
    let small : c.args.code < 2 ^ c.self.inside.width = rw wide c.requires.fits in
    rw (← c.self.view_is) (
    codes_more k n (c.args.code ∷ []) (lists c.self.inside.groups.items) new
    (λ r h. let first : r ≡ 0 = omega (arith, h) in rw first small)
    (λ i j h l. c.put_code.ensures.other i j h (λ e. omega (arith, l, e)) ∙ ap (λ w. bit_of w (j % 64)) (c.begin_segment.ensures.words i (j / 64)))
    (λ i r h l.
    let first : r ≡ 0 = omega (arith, l) in
    let here : n + r ≡ n = omega (arith, first) in
    ap (is_set k new i) here ∙ c.put_code.ensures.same i h ∙ sym (ap (λ x. bit_of (get_or (c.args.code ∷ []) x 0) (k - 1 - i)) first)))
