use Rattle.std.proofs.Common.{ap, arith, subst, sym, w64, ◌-◌, ◌^◌, ◌≡◌, ◌≤◌, ◌∙◌}
use Rattle.std.proofs.lemmas.Int.{ints, to_z-of_z}
use Rattle.bw_code.specs.Encodings.{width}
use Rattle.bw_column.proofs.Held.{all_storable}
use Rattle.bw_aggregate.proofs.KnownEnds.{end_is, end_is_code, is_within}
use Rattle.bw_aggregate.proofs.ends.end_value.Goals as goal
use mir.Val.{of_z, to_z}

pub distance-requires : goal.distance-requires
distance-requires c =
    let column = c.args.column.now in
    let e = c.encoding-encoding.ensures in
    let bits : c.width.result ≡ width column.encoding = c.width.ensures.is ∙ ap width e.is in
    let narrow : width column.encoding ≤ 64 = subst (λ n. n ≤ 64) bits c.width.ensures.few in
    let top : c.greatest_code-top.result ≡ 2 ^ width column.encoding - 1 = c.greatest_code-top.ensures ∙ ap (λ w. 2 ^ w - 1) bits in
    omega (arith, top, is_within column.encoding e.sound narrow c.args.rows.now.rows column.values c.requires.len e.coded c.requires.some c.args.end c.args.nearest c.requires.nearest)

pub decode-requires : goal.decode-requires
decode-requires c =
    let column = c.args.column.now in
    let e = c.encoding-encoding.ensures in
    let bits : c.width.result ≡ width column.encoding = c.width.ensures.is ∙ ap width e.is in
    let narrow : width column.encoding ≤ 64 = subst (λ n. n ≤ 64) bits c.width.ensures.few in
    let top : c.greatest_code-top.result ≡ 2 ^ width column.encoding - 1 = c.greatest_code-top.ensures ∙ ap (λ w. 2 ^ w - 1) bits in
    rw (e.is, c.distance.ensures.is, top) (end_is_code column.encoding e.sound narrow c.args.rows.now.rows column.values c.requires.len e.coded c.requires.some c.args.end c.args.nearest c.requires.nearest (all_storable column.layout column.values c.requires.held))

pub returns : goal.returns
returns c =
    let column = c.args.column.now in
    let e = c.encoding-encoding.ensures in
    let bits : c.width.result ≡ width column.encoding = c.width.ensures.is ∙ ap width e.is in
    let narrow : width column.encoding ≤ 64 = subst (λ n. n ≤ 64) bits c.width.ensures.few in
    let top : c.greatest_code-top.result ≡ 2 ^ width column.encoding - 1 = c.greatest_code-top.ensures ∙ ap (λ w. 2 ^ w - 1) bits in
    let back : to_z w64 (of_z w64 c.decode.result) ≡ c.decode.result = search (arith, ints, to_z-of_z) in
    rw (back, c.decode.ensures.is, e.is, c.distance.ensures.is, top) (sym (end_is column.encoding e.sound narrow c.args.rows.now.rows column.values c.requires.len e.coded c.requires.some c.args.end c.args.nearest c.requires.nearest))
