use Rattle.std.proofs.Common.{ap, arith, false, get_or, length, refl, subst, sym, ℕ, ◌%◌, ◌++◌, ◌+◌, ◌-◌, ◌/◌, ◌<◌, ◌^◌, ◌≡◌, ◌≤◌, ◌∙◌}
use Rattle.bw_code.specs.Lists.{made}
use Rattle.bw_code.proofs.Lists.{made_at, made_len}
use Rattle.bw_mask.specs.Masks.{bit_of}
use Rattle.bw_code.specs.Columns.{CodeList}
use Rattle.bw_code.specs.Units.{segments_of}
use Rattle.bw_vertical.specs.Planes.{code_by}
use Rattle.bw_vertical.specs.Storage.{capacities, codes_of, lists}
use Rattle.bw_vertical.proofs.WordCodes.{code_by_lt, row_of_word}
use Rattle.bw_vertical.proofs.Holding.{codes_len, codes_more, held_more}
use Rattle.bw_vertical.proofs.Rooms.{room_more}
use Rattle.bw_vertical.proofs.column.VerticalColumn.extend_words.Goals as goal

pub invariant_of-self : goal.invariant_of-self
invariant_of-self c =
    let k = c.self.inside.width in
    let n = c.self.inside.len in
    let more = c.args.n in
    let few : n + more ≤ 2 ^ 24 = grind (arith, codes_len) in
    let word : n % 64 + more ≤ 64 = grind (arith, codes_len) in
    let segments : segments_of 256 (n + more) ≡ n / 256 + 1 = omega (arith, word, c.requires.some) in
    held_more k n (n + more) c.put_planes.new.groups.items c.begin_segment.new.groups.items c.self.inside.groups.items c.self.invariant few segments (omega (arith, c.begin_segment.ensures.count)) c.begin_segment.ensures.sizes c.put_planes.ensures.sizes
    (λ i j h l. c.put_planes.ensures.clean i j h l)

pub returns-clause-shape : goal.returns-clause-shape
returns-clause-shape c =
    rw (← c.self.view_is) (record {
      width = refl;
      room = room_more c.self.inside.width (capacities c.self.inside.groups.items) (capacities c.put_planes.new.groups.items) (λ g. omega (arith, c.begin_segment.ensures.capacities g, c.put_planes.ensures.sizes.capacities g));
    })

pub returns-clause-codes : goal.returns-clause-codes
returns-clause-codes c =
    let k = c.self.inside.width in
    let n = c.self.inside.len in
    let words = c.args.words.now in
    let codes = made c.args.n (code_by k words) in
    let long : length codes ≡ c.args.n = made_len c.args.n (code_by k words) in
    let wide : k ≡ c.args.self.now.width = ap (λ (v : CodeList). v.width) c.self.view_is in
    let rest : (b r : ℕ) → b < k → c.args.n ≤ r → r < 64 → bit_of (get_or words b 0) r ≡ false = rw wide c.requires.rest in
    let small : (r : ℕ) → r < length codes → get_or codes r 0 < 2 ^ k = λ r h. subst (λ x. x < 2 ^ k) (sym (made_at c.args.n (code_by k words) r 0 (omega (arith, h, long)))) (code_by_lt k words r) in
    rw (← c.self.view_is) (
    subst (λ m. codes_of k (lists c.put_planes.new.groups.items) (n + m) ≡ codes_of k (lists c.self.inside.groups.items) n ++ codes) long
    (codes_more k n codes (lists c.self.inside.groups.items) (lists c.put_planes.new.groups.items) small
    (λ i j h l. c.put_planes.ensures.kept i j h l ∙ ap (λ w. bit_of w (j % 64)) (c.begin_segment.ensures.words i (j / 64)))
    (λ i r h l. c.put_planes.ensures.added i r h (omega (arith, l, long)) ∙ row_of_word k c.args.n words rest (k - 1 - i) r (omega (arith, h)) (omega (arith, l, long, c.requires.word)))))
