use Rattle.std.proofs.Common.{[], ap, arith, get_or, inl, inr, length, refl, subst, sym, ◌%◌, ◌*◌, ◌++◌, ◌+◌, ◌-◌, ◌/◌, ◌<◌, ◌^◌, ◌≡◌, ◌≤◌, ◌∙◌, ℕ}
use Rattle.std.proofs.lemmas.Bool.{cases_lt}
use Rattle.bw_code.proofs.Lists.{made_at, made_len}
use Rattle.bw_code.specs.Lists.{made}
use Rattle.bw_mask.specs.Masks.{bit_of}
use Rattle.bw_code.specs.Units.{segments_of}
use Rattle.bw_vertical.specs.Planes.{code_by_planes}
use Rattle.bw_vertical.specs.Storage.{capacities, codes_of, is_set, lists, planes_in, room_of}
use Rattle.bw_vertical.proofs.BlockRows.{block_row, code_by_planes_lt, none_past, row_of_planes}
use Rattle.bw_vertical.proofs.Holding.{codes_len, codes_more, lists_len}
use Rattle.bw_vertical.proofs.Rooms.{room_below, room_more}
use Rattle.bw_vertical.proofs.column.VerticalColumn.extend_block.Goals as goal

pub push_segments-requires-clause-room : goal.push_segments-requires-clause-room
push_segments-requires-clause-room c g h =
    let k = c.self.inside.width in
    let n = c.self.inside.len in
    let caps = capacities c.self.inside.groups.items in
    let asked = rw (← c.self.view_is) at c.requires.room in
    let whole = rw (← c.self.view_is) at c.requires.first in
    let first : n % 256 ≡ 0 = omega (arith, whole, codes_len k n (lists c.self.inside.groups.items)) in
    let room : n + c.args.n ≤ room_of k caps = omega (arith, asked, codes_len k n (lists c.self.inside.groups.items)) in
    let parts : segments_of 256 n + c.div_ceil-segments.result ≡ segments_of 256 (n + c.args.n) = omega (arith, first, c.div_ceil-segments.ensures) in
    omega (arith, c.self.invariant.sizes g h, ap (λ m. m * planes_in k g) parts, room_below k (n + c.args.n) caps room g h)

pub invariant_of-self : goal.invariant_of-self
invariant_of-self c =
    let k = c.self.inside.width in
    let n = c.self.inside.len in
    let m = c.args.n in
    let block = c.args.block.now in
    let held = c.self.invariant in
    let new = lists c.put_block.new.groups.items in
    let whole = rw (← c.self.view_is) at c.requires.first in
    let first : n % 256 ≡ 0 = omega (arith, whole, codes_len k n (lists c.self.inside.groups.items)) in
    let parts : segments_of 256 n + c.div_ceil-segments.result ≡ segments_of 256 (n + m) = omega (arith, first, c.div_ceil-segments.ensures) in
    let rest = rw (← c.self.view_is) at c.requires.rest in
    let sizes : (g : ℕ) → 4 * g < k → length (get_or new g []) ≡ segments_of 256 (n + m) * planes_in k g =
    λ g h. omega (arith, c.put_block.ensures.sizes.sizes g, c.push_segments.ensures.sizes g h, held.sizes g h, ap (λ s. s * planes_in k g) parts) in
    record {
      some = held.some;
      narrow = held.narrow;
      few = grind (arith, codes_len);
      count = omega (arith, lists_len c.put_block.new.groups.items, lists_len c.self.inside.groups.items, c.put_block.ensures.sizes.count, c.push_segments.ensures.count, held.count);
      sizes = sizes;
      clean = λ i j h l.
          elim (cases_lt j (256 * segments_of 256 (n + m))) [
            | inl inside ↦
                let r = j - n in
                let at : n + r ≡ j = omega (arith, l) in
                let within : r / 64 < 4 * c.div_ceil-segments.result = omega (arith, l, inside, first, c.div_ceil-segments.ensures) in
                ap (is_set k new i) (sym at) ∙ block_row k i n r new (get_or block (k - 1 - i) []) first (c.put_block.ensures.put i (r / 64) h within) ∙ rest (k - 1 - i) r (omega (arith, h)) (omega (arith, l)) (omega (arith, l, inside, first, c.requires.block))
            | inr past ↦ none_past k (segments_of 256 (n + m)) i j new (sizes (i / 4) (omega (arith, h))) past
          ];
    }

pub returns-clause-shape : goal.returns-clause-shape
returns-clause-shape c =
    rw (← c.self.view_is) (record {
      width = refl;
      room = room_more c.self.inside.width (capacities c.self.inside.groups.items) (capacities c.put_block.new.groups.items) (λ g. omega (arith, c.push_segments.ensures.capacities g, c.put_block.ensures.sizes.capacities g));
    })

pub returns-clause-codes : goal.returns-clause-codes
returns-clause-codes c =
    let k = c.self.inside.width in
    let n = c.self.inside.len in
    let m = c.args.n in
    let block = c.args.block.now in
    let new = lists c.put_block.new.groups.items in
    let old = lists c.self.inside.groups.items in
    let codes = made m (code_by_planes k block) in
    let whole = rw (← c.self.view_is) at c.requires.first in
    let first : n % 256 ≡ 0 = omega (arith, whole, codes_len k n old) in
    let long : length codes ≡ m = made_len m (code_by_planes k block) in
    let rest = rw (← c.self.view_is) at c.requires.rest in
    let small : (r : ℕ) → r < length codes → get_or codes r 0 < 2 ^ k =
    λ r h. subst (λ x. x < 2 ^ k) (sym (made_at m (code_by_planes k block) r 0 (omega (arith, h, long)))) (code_by_planes_lt k block r) in
    rw (← c.self.view_is) (
    subst (λ l. codes_of k new (n + l) ≡ codes_of k old n ++ codes) long
    (codes_more k n codes old new small
    (λ i j h l.
    let before : j / 64 < 4 * (n / 256) = omega (arith, l, first) in
    ap (λ w. bit_of w (j % 64)) (c.put_block.ensures.other i (j / 64) h before ∙ c.push_segments.ensures.words i (j / 64)))
    (λ i r h l.
    let row : r < m = omega (arith, l, long) in
    let within : r / 64 < 4 * c.div_ceil-segments.result = omega (arith, row, c.div_ceil-segments.ensures) in
    block_row k i n r new (get_or block (k - 1 - i) []) first (c.put_block.ensures.put i (r / 64) h within)
    ∙ row_of_planes k m _ block rest (k - 1 - i) r (omega (arith, h)) (omega (arith, row, c.requires.block)))))
