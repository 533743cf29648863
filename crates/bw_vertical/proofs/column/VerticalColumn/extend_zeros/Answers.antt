use Rattle.std.proofs.Common.{ap, arith, get_or, length, pow_pos, refl, replicate, subst, sym, ℕ, ◌%◌, ◌*◌, ◌++◌, ◌+◌, ◌-◌, ◌/◌, ◌<◌, ◌^◌, ◌≡◌, ◌≤◌, ◌∙◌}
use Rattle.std.proofs.lemmas.List.{get_or-replicate, length-replicate}
use Rattle.bw_mask.specs.Masks.{bit_of}
use Rattle.bw_mask.proofs.Bits.{bit_of_zero}
use Rattle.bw_code.specs.Units.{segments_of}
use Rattle.bw_vertical.specs.Storage.{capacities, codes_of, lists, planes_in, room_of}
use Rattle.bw_vertical.proofs.Holding.{codes_len, codes_more, lists_len}
use Rattle.bw_vertical.proofs.Rooms.{room_below, room_more}
use Rattle.bw_vertical.proofs.column.VerticalColumn.extend_zeros.Goals as goal

pub push_segments-requires-clause-room : goal.push_segments-requires-clause-room
push_segments-requires-clause-room c g h =
    let k = c.self.inside.width in
    let n = c.self.inside.len in
    let caps = capacities c.self.inside.groups.items in
    let asked = rw (← c.self.view_is) at c.requires.room in
    let room : n + c.args.n ≤ room_of k caps = omega (arith, asked, codes_len k n (lists c.self.inside.groups.items)) in
    let parts : segments_of 256 n + (c.div_ceil.result - c.div_ceil-2.result) ≡ segments_of 256 (n + c.args.n) = omega (arith, c.div_ceil.ensures, c.div_ceil-2.ensures) in
    omega (arith, c.self.invariant.sizes g h, ap (λ m. m * planes_in k g) parts, room_below k (n + c.args.n) caps room g h)

pub invariant_of-self : goal.invariant_of-self
invariant_of-self c =
    let k = c.self.inside.width in
    let n = c.self.inside.len in
    let held = c.self.invariant in
    let parts : segments_of 256 n + (c.div_ceil.result - c.div_ceil-2.result) ≡ segments_of 256 (n + c.args.n) = omega (arith, c.div_ceil.ensures, c.div_ceil-2.ensures) in
    record {
      some = held.some;
      narrow = held.narrow;
      few = grind (arith, codes_len);
      count = omega (arith, lists_len c.push_segments.new.groups.items, lists_len c.self.inside.groups.items, c.push_segments.ensures.count, held.count);
      sizes = λ g h. omega (arith, c.push_segments.ensures.sizes g h, held.sizes g h, ap (λ m. m * planes_in k g) parts);
      clean = λ i j h l. ap (λ w. bit_of w (j % 64)) (c.push_segments.ensures.words i (j / 64)) ∙ held.clean i j h (omega (arith, l));
    }

pub returns-clause-shape : goal.returns-clause-shape
returns-clause-shape c =
    rw (← c.self.view_is) (record {
      width = refl;
      room = room_more c.self.inside.width (capacities c.self.inside.groups.items) (capacities c.push_segments.new.groups.items) c.push_segments.ensures.capacities;
    })

pub returns-clause-codes : goal.returns-clause-codes
returns-clause-codes c =
    let k = c.self.inside.width in
    let n = c.self.inside.len in
    let m = c.args.n in
    let old = lists c.self.inside.groups.items in
    let new = lists c.push_segments.new.groups.items in
    let zeros = replicate {A = ℕ} m 0 in
    let long : length zeros ≡ m = length-replicate {A = ℕ} m 0 in
    let zero : (r : ℕ) → r < length zeros → get_or zeros r 0 ≡ 0 = λ r h. get_or-replicate m r 0 0 (omega (arith, h, long)) in
    rw (← c.self.view_is) (
    subst (λ l. codes_of k new (n + l) ≡ codes_of k old n ++ zeros) long
    (codes_more k n zeros old new
    (λ r h. subst (λ x. x < 2 ^ k) (sym (zero r h)) (pow_pos k))
    (λ i j h l. ap (λ w. bit_of w (j % 64)) (c.push_segments.ensures.words i (j / 64)))
    (λ i r h l.
    ap (λ w. bit_of w ((n + r) % 64)) (c.push_segments.ensures.words i ((n + r) / 64))
    ∙ c.self.invariant.clean i (n + r) h (omega arith)
    ∙ sym (ap (λ x. bit_of x (k - 1 - i)) (zero r l) ∙ bit_of_zero (k - 1 - i)))))
