use Rattle.std.proofs.Common.{ap, arith, length, refl, ◌%◌, ◌+◌, ◌/◌, ◌^◌, ◌≡◌, ◌≤◌, ◌∙◌}
use Rattle.bw_mask.specs.Masks.{bit_of}
use Rattle.bw_code.specs.Columns.{CodeList, Fit}
use Rattle.bw_code.specs.Units.{segments_of}
use Rattle.bw_vertical.specs.Storage.{capacities, lists}
use Rattle.bw_vertical.proofs.Holding.{codes_len, codes_more, held_more}
use Rattle.bw_vertical.proofs.Rooms.{room_more}
use Rattle.bw_vertical.proofs.column.VerticalColumn.append.Goals as goal

pub invariant_of-self : goal.invariant_of-self
invariant_of-self c =
    let k = c.self.inside.width in
    let n = c.self.inside.len in
    let more = length c.args.codes.now in
    let few : n + more ≤ 2 ^ 24 = grind (arith, codes_len) in
    let word : n % 64 + more ≤ 64 = grind (arith, codes_len) in
    let segments : segments_of 256 (n + more) ≡ n / 256 + 1 = omega (arith, word, c.requires.some) in
    held_more k n (n + more) c.put_block.new.groups.items c.begin_segment.new.groups.items c.self.inside.groups.items c.self.invariant few segments (omega (arith, c.begin_segment.ensures.count)) c.begin_segment.ensures.sizes c.put_block.ensures.sizes
    (λ i j h l. c.put_block.ensures.clean i j h l)

pub returns-clause-shape : goal.returns-clause-shape
returns-clause-shape c =
    rw (← c.self.view_is) (record {
      width = refl;
      room = room_more c.self.inside.width (capacities c.self.inside.groups.items) (capacities c.put_block.new.groups.items) (λ g. omega (arith, c.begin_segment.ensures.capacities g, c.put_block.ensures.sizes.capacities g));
    })

pub returns-clause-codes : goal.returns-clause-codes
returns-clause-codes c =
    let k = c.self.inside.width in
    let n = c.self.inside.len in
    let codes = c.args.codes.now in
    let wide : k ≡ c.args.self.now.width = ap (λ (v : CodeList). v.width) c.self.view_is in
    let fit : Fit k codes = rw wide c.requires.fit in
    rw (← c.self.view_is) (
    codes_more k n codes (lists c.self.inside.groups.items) (lists c.put_block.new.groups.items)
    (λ r h. fit r 0 h)
    (λ i j h l. c.put_block.ensures.kept i j h l ∙ ap (λ w. bit_of w (j % 64)) (c.begin_segment.ensures.words i (j / 64)))
    c.put_block.ensures.added)
