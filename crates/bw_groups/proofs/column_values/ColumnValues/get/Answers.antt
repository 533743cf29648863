use Rattle.std.proofs.Common.{None, Some, ap, arith, false, get_or, if◌then◌else◌, length, of_z, pos, sym, to_z, w64, ◌<◌, ◌∙◌, ◌≡◌}
use Rattle.std.proofs.lemmas.Int.{ints, to_z-of_z}
use Rattle.std.proofs.lemmas.List.{get_or_read}
use Rattle.bw_groups.proofs.Values.{value_in, values_length}
use Rattle.bw_groups.proofs.column_values.ColumnValues.get.Goals as goal

pub index-number-requires : goal.index-number-requires
index-number-requires c =
    let count = ap length (sym c.self.view_is) ∙ values_length c.self.inside.numbers.items c.self.inside.known.items c.self.invariant in
    omega (arith, c.requires, count, c.self.inside.numbers.ok)

pub index-requires : goal.index-requires
index-requires c =
    let count = ap length (sym c.self.view_is) ∙ values_length c.self.inside.numbers.items c.self.inside.known.items c.self.invariant in
    omega (arith, c.requires, count, c.self.inside.known.ok, c.self.invariant)

pub returns-then-index : goal.returns-then-index
returns-then-index c =
    let numbers = c.self.inside.numbers.items in
    let known = c.self.inside.known.items in
    let i = c.args.i in
    let count = ap length (sym c.self.view_is) ∙ values_length numbers known c.self.invariant in
    let low : i < length numbers = omega (arith, c.requires, count) in
    let lower : i < length known = omega (arith, low, c.self.invariant) in
    let number = get_or_read numbers i _ low c.index-number.ensures (pos 0) in
    let there = get_or_read known i _ lower c.index.ensures false in
    let back : to_z w64 (of_z w64 c.index-number.result.now) ≡ c.index-number.result.now = search (arith, ints, to_z-of_z) in
    rw back
    (ap (λ x. Some x) number
    ∙ ap (λ b. if b then Some (get_or numbers i (pos 0)) else None) (sym (sym there ∙ c.if-index.true))
    ∙ sym (value_in numbers known i c.self.invariant low)
    ∙ ap (λ vs. get_or vs i None) c.self.view_is)

pub returns-else-index : goal.returns-else-index
returns-else-index c =
    let numbers = c.self.inside.numbers.items in
    let known = c.self.inside.known.items in
    let i = c.args.i in
    let count = ap length (sym c.self.view_is) ∙ values_length numbers known c.self.invariant in
    let low : i < length numbers = omega (arith, c.requires, count) in
    let lower : i < length known = omega (arith, low, c.self.invariant) in
    let there = get_or_read known i _ lower c.index.ensures false in
    ap (λ b. if b then Some (get_or numbers i (pos 0)) else None) (sym (sym there ∙ c.if-index.false))
    ∙ sym (value_in numbers known i c.self.invariant low)
    ∙ ap (λ vs. get_or vs i None) c.self.view_is
