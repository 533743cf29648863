use Rattle.std.proofs.Common.{ap, arith, sym, w64, ◌-◌, ◌/◌, ◌≡◌, ◌∙◌}
use Rattle.std.proofs.lemmas.Int.{ints, to_z-of_z}
use Rattle.std.specs.Prelude.{slice_get}
use Rattle.bw_cells.specs.SetFunctions.{sorted}
use Rattle.bw_aggregate.specs.Chosen.{chosen}
use Rattle.bw_column.proofs.Held.{all_storable}
use Rattle.bw_aggregate.proofs.SortedValues.{is_code, nth_is}
use Rattle.bw_aggregate.proofs.Told.{many_codes}
use Rattle.bw_aggregate.proofs.middle.median_of.Goals as goal
use mir.Val.{of_z, to_z}

pub median_code-requires-clause-count : goal.median_code-requires-clause-count
median_code-requires-clause-count c =
    let column = c.args.column.now in
    let keep = c.args.known.now.rows in
    let e = c.encoding-encoding.ensures in
    c.requires.count ∙ sym (many_codes column.encoding e.sound keep keep column.values c.requires.len c.requires.len c.requires.known.each e.coded)

pub decode-requires : goal.decode-requires
decode-requires c =
    let column = c.args.column.now in
    let keep = c.args.known.now.rows in
    let e = c.encoding-encoding.ensures in
    rw e.is (is_code column.encoding e.sound keep keep column.values c.requires.len c.requires.len c.requires.known.each e.coded (all_storable column.layout column.values c.requires.held) _ c.in_ok-code.code c.in_ok-code.ensures)

pub returns : goal.returns
returns c =
    let column = c.args.column.now in
    let keep = c.args.known.now.rows in
    let e = c.encoding-encoding.ensures in
    let told = nth_is column.encoding e.sound keep keep column.values c.requires.len c.requires.len c.requires.known.each e.coded _ c.in_ok-code.code c.in_ok-code.ensures in
    let back : to_z w64 (of_z w64 c.decode.result) ≡ c.decode.result = search (arith, ints, to_z-of_z) in
    rw (back, c.decode.ensures.is, e.is) (sym told ∙ ap (λ n. slice_get (sorted (chosen column c.args.known.now)) ((n - 1) / 2)) c.requires.count)
