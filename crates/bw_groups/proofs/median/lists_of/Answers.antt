use Rattle.std.proofs.Common.{[], ap, arith, get_or, inl, inr, length, length-append, length-set, of_z, pos, refl, set, sym, take, to_z, w64, ◌%◌, ◌*◌, ◌+◌, ◌++◌, ◌<◌, ◌^◌, ◌≡◌, ◌∙◌, ◌∷◌}
use Rattle.std.proofs.lemmas.Bool.{cases_eq}
use Rattle.std.proofs.lemmas.Grind.{get_or-set_at}
use Rattle.std.proofs.lemmas.Int.{ints, to_z-of_z}
use Rattle.std.proofs.lemmas.List.{get_or-map, get_or-replicate, get_or-set_other, get_or_read, length-map, length-replicate, take_all, take_more}
use Rattle.std.proofs.lemmas.Nat.{one_shl}
use Rattle.bw_groups.specs.Parts.{NumberInGroup, numbers_at}
use Rattle.bw_groups.proofs.Places.{number_here, number_other, numbers_count, numbers_front}
use Rattle.bw_groups.proofs.Runs.{take_none}
use Rattle.bw_groups.proofs.median.lists_of.Goals as goal

pub rows-init : goal.rows-init
rows-init c = record {
  count = ap length c.in_ok-lists.ensures.lists ∙ length-replicate (length c.args.counts.now) [];
  room = c.in_ok-lists.ensures.room;
  lists = λ k l.
      ap (λ ls. get_or ls k []) c.in_ok-lists.ensures.lists ∙ get_or-replicate (length c.args.counts.now) k [] [] l
      ∙ ap (λ rs. numbers_at (2 ^ c.args.bits) rs k) (sym (take_none c.args.rows.now));
}

pub put-requires-clause-inside : goal.put-requires-clause-inside
put-requires-clause-inside c =
    let rows = c.args.rows.now in
    let i = c.rows.i in
    let w = 2 ^ c.args.bits in
    let none : NumberInGroup = record { group = 0; number = pos 0 } in
    let group : c.group.result ≡ (get_or rows i none).group = c.group.ensures ∙ ap (λ r. r.group) (get_or_read rows i _ c.rows-test.true c.index-rows-i.is none) in
    let wide : 1 * 2 ^ c.args.bits % 4294967296 ≡ 2 ^ c.args.bits = one_shl c.args.bits 32 (omega (arith, c.requires.bits)) in
    let at = get_or-map (λ row. row.group % w) rows i none 0 c.rows-test.true in
    let inside = c.requires.counted.inside i 0 (omega (arith, c.rows-test.true, length-map rows (λ row. row.group % w))) in
    rw (wide, group) (omega (arith, at, inside, c.rows.invariant.count))

pub put-requires-clause-room : goal.put-requires-clause-room
put-requires-clause-room c =
    let rows = c.args.rows.now in
    let i = c.rows.i in
    let w = 2 ^ c.args.bits in
    let none : NumberInGroup = record { group = 0; number = pos 0 } in
    let group : c.group.result ≡ (get_or rows i none).group = c.group.ensures ∙ ap (λ r. r.group) (get_or_read rows i _ c.rows-test.true c.index-rows-i.is none) in
    let row = get_or rows i none in
    let wide : 1 * 2 ^ c.args.bits % 4294967296 ≡ 2 ^ c.args.bits = one_shl c.args.bits 32 (omega (arith, c.requires.bits)) in
    let at = get_or-map (λ r. r.group % w) rows i none 0 c.rows-test.true in
    let inside = c.requires.counted.inside i 0 (omega (arith, c.rows-test.true, length-map rows (λ r. r.group % w))) in
    let k = row.group % w in
    let low : k < length c.args.counts.now = omega (arith, at, inside) in
    let so_far = ap length (c.rows.invariant.lists k low) in
    let more = ap (λ rs. length (numbers_at w rs k)) (take_more rows i none c.rows-test.true) ∙ ap length (number_here w (take i rows) row k refl) ∙ length-append (numbers_at w (take i rows) k) (row.number ∷ []) in
    let most = numbers_front w rows (i + 1) k in
    let room = ap (λ rs. get_or rs k 0) c.rows.invariant.room in
    rw (wide, group) (omega (arith, so_far, more, most, numbers_count w rows k, c.requires.counted.each k low, room))

pub rows-preserved : goal.rows-preserved
rows-preserved c =
    let rows = c.args.rows.now in
    let i = c.rows.i in
    let w = 2 ^ c.args.bits in
    let none : NumberInGroup = record { group = 0; number = pos 0 } in
    let group : c.group.result ≡ (get_or rows i none).group = c.group.ensures ∙ ap (λ r. r.group) (get_or_read rows i _ c.rows-test.true c.index-rows-i.is none) in
    let row = get_or rows i none in
    let lists = c.rows.lists.lists in
    let wide : 1 * 2 ^ c.args.bits % 4294967296 ≡ 2 ^ c.args.bits = one_shl c.args.bits 32 (omega (arith, c.requires.bits)) in
    let at = get_or-map (λ r. r.group % w) rows i none 0 c.rows-test.true in
    let inside = c.requires.counted.inside i 0 (omega (arith, c.rows-test.true, length-map rows (λ r. r.group % w))) in
    let q = row.group % w in
    let low : q < length lists = omega (arith, at, inside, c.rows.invariant.count) in
    let back : to_z w64 (of_z w64 c.number.result) ≡ c.number.result = search (arith, ints, to_z-of_z) in
    let number : c.number.result ≡ row.number = c.number.ensures ∙ ap (λ r. r.number) (get_or_read rows i _ c.rows-test.true c.index-rows-i.is none) in
    let more = get_or lists q [] ++ row.number ∷ [] in
    let put : c.put.new.self.lists ≡ set lists q more = rw (wide, group, back, number) at c.put.ensures.lists in
    let next = take_more rows i none c.rows-test.true in
    record {
      count = ap length put ∙ length-set lists q more ∙ c.rows.invariant.count;
      room = c.put.ensures.room ∙ c.rows.invariant.room;
      lists = λ k l. elim (cases_eq k q) [
        | inl same ↦
            ap (λ ls. get_or ls k []) put ∙ get_or-set_at lists q k more [] same low
            ∙ ap (λ xs. xs ++ row.number ∷ []) (c.rows.invariant.lists q (omega (arith, low, c.rows.invariant.count)))
            ∙ sym (number_here w (take i rows) row q refl)
            ∙ ap (λ rs. numbers_at w rs q) (sym next)
            ∙ ap (λ n. numbers_at w (take (i + 1) rows) n) (sym same)
        | inr other ↦
            ap (λ ls. get_or ls k []) put ∙ get_or-set_other lists q k more [] other
            ∙ c.rows.invariant.lists k l
            ∙ sym (number_other w (take i rows) row k (λ e. other (sym e)))
            ∙ ap (λ rs. numbers_at w rs k) (sym next)
      ];
    }

pub returns-clause-lists : goal.returns-clause-lists
returns-clause-lists c = λ k l. c.rows.invariant.lists k l ∙ ap (λ rs. numbers_at (2 ^ c.args.bits) rs k) (take_all c.rows.i c.args.rows.now (omega (arith, c.rows-test.false)))
