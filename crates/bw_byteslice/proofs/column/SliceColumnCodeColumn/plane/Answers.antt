use Rattle.std.proofs.Common.{ap, arith, get_or, length, sym, ◌*◌, ◌+◌, ◌-◌, ◌/◌, ◌%◌, ◌<◌, ◌≡◌, ◌∙◌}
use Rattle.std.proofs.lemmas.List.{get_or_past}
use Rattle.bw_mask.specs.Masks.{bit_of}
use Rattle.bw_code.specs.Units.{segments_of}
use Rattle.bw_byteslice.specs.Slices.{shift_of, slices_of}
use Rattle.bw_byteslice.proofs.Planes.{bit_of_byte, digit_of_none}
use Rattle.bw_byteslice.proofs.Views.{count_is, slice_bytes, slice_len, slices_count, width_is}
use Rattle.bw_byteslice.proofs.column.SliceColumnCodeColumn.plane.Goals as goal

pub put_rows-requires-clause-few : goal.put_rows-requires-clause-few
put_rows-requires-clause-few c = omega (arith, count_is c.self.inside.width c.self.inside.len c.self.inside.slices.items c.args.self.now c.self.invariant c.self.view_is, c.requires.out, c.self.invariant.few)

pub put_rows-requires-clause-long : goal.put_rows-requires-clause-long
put_rows-requires-clause-long c =
    let low : c.len.result - 1 - (c.args.i + c.shift_of.result) / 8 < slices_of c.self.inside.width = omega (arith, slices_count c.self.inside.width c.self.inside.len c.self.inside.slices.items c.args.self.now c.self.invariant c.self.view_is, c.len.ensures, c.self.invariant.some) in
    ap length c.deref.ensures.value ∙ slice_len c.self.inside.width c.self.inside.len c.self.inside.slices.items c.args.self.now c.self.invariant c.self.view_is _ c.index-slice.result.now low c.index-slice.ensures ∙ ap (λ n. 32 * segments_of 32 n) (sym c.requires.out)

pub put_rows-requires-clause-clean : goal.put_rows-requires-clause-clean
put_rows-requires-clause-clean c r past =
    let low : c.len.result - 1 - (c.args.i + c.shift_of.result) / 8 < slices_of c.self.inside.width = omega (arith, slices_count c.self.inside.width c.self.inside.len c.self.inside.slices.items c.args.self.now c.self.invariant c.self.view_is, c.len.ensures, c.self.invariant.some) in
    let none : get_or c.args.self.now.codes r 0 ≡ 0 = get_or_past c.args.self.now.codes r 0 (omega (arith, past, c.requires.out)) in
    ap (λ xs. get_or xs r 0) c.deref.ensures.value ∙ slice_bytes c.self.inside.width c.self.inside.len c.self.inside.slices.items c.args.self.now c.self.invariant c.self.view_is _ c.index-slice.result.now low c.index-slice.ensures r
    ∙ digit_of_none (slices_of c.args.self.now.width) (get_or c.args.self.now.codes r 0) (shift_of c.args.self.now.width) _ none

pub returns-clause-rows : goal.returns-clause-rows
returns-clause-rows c r =
    let k = c.args.self.now.width in
    let width = width_is c.self.inside.width c.self.inside.len c.self.inside.slices.items c.args.self.now c.self.invariant c.self.view_is in
    let low : c.len.result - 1 - (c.args.i + c.shift_of.result) / 8 < slices_of c.self.inside.width = omega (arith, slices_count c.self.inside.width c.self.inside.len c.self.inside.slices.items c.args.self.now c.self.invariant c.self.view_is, c.len.ensures, c.self.invariant.some) in
    let byte = ap (λ xs. get_or xs r 0) c.deref.ensures.value ∙ slice_bytes c.self.inside.width c.self.inside.len c.self.inside.slices.items c.args.self.now c.self.invariant c.self.view_is _ c.index-slice.result.now low c.index-slice.ensures r in
    let shift : c.shift_of.result ≡ shift_of k = c.shift_of.ensures ∙ ap shift_of width in
    let count : c.len.result ≡ slices_of k = omega (arith, slices_count c.self.inside.width c.self.inside.len c.self.inside.slices.items c.args.self.now c.self.invariant c.self.view_is, c.len.ensures, ap slices_of width) in
    c.put_rows.ensures.rows r ∙ ap (λ b. bit_of b ((c.args.i + c.shift_of.result) % 8)) byte
    ∙ bit_of_byte (slices_of k) (get_or c.args.self.now.codes r 0) (shift_of k) c.args.i c.shift_of.result c.len.result shift count (omega (arith, c.requires.bit))
