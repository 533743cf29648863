use Rattle.std.proofs.Common.{FitsSigned, None, ap, arith, drop, get_or, is_some, length, map, of_z, rules, sym, take, w64, ◌%◌, ◌+◌, ◌-◌, ◌/◌, ◌<◌, ◌^◌, ◌≡◌, ◌≤◌, ◌∙◌}
use Rattle.std.specs.Int.{cast_unsigned}
use Rattle.std.proofs.lemmas.Bool.{lt-ltb}
use Rattle.std.proofs.lemmas.Int.{to_z-of_z}
use Rattle.bw_cells.specs.Distances.{distance_from}
use Rattle.bw_mask.proofs.Bits.{and_true}
use Rattle.bw_mask.specs.Masks.{bit_of}
use Rattle.bw_file.specs.Cells.{presence_size}
use Rattle.bw_file.specs.Planes.{code_in, has_in}
use Rattle.bw_file.proofs.PlaneEnds.{length-plane_cells}
use Rattle.bw_file.proofs.PlaneRuns.{lifted, plane_distances_in, plane_presence_in}
use Rattle.bw_file.proofs.plane_column.PlaneColumnMeasured.distances.Goals as goal

pub read_codes-requires-clause-inside : goal.read_codes-requires-clause-inside
read_codes-requires-clause-inside c =
    let s = c.self.inside in
    let rows : length c.args.self.now ≡ c.self.inside.rows = ap length (sym c.self.view_is) ∙ length-plane_cells c.self.inside.rows c.self.inside.base c.self.inside.width c.self.inside.present.now c.self.inside.planes.now in
    omega (arith, rows, c.requires.inside, c.div_ceil.ensures)

pub bits_of_rows-there-requires-clause-there : goal.bits_of_rows-there-requires-clause-there
bits_of_rows-there-requires-clause-there c =
    let s = c.self.inside in
    let rows : length c.args.self.now ≡ c.self.inside.rows = ap length (sym c.self.view_is) ∙ length-plane_cells c.self.inside.rows c.self.inside.base c.self.inside.width c.self.inside.present.now c.self.inside.planes.now in
    omega (arith, rows, c.requires.inside, c.self.invariant.are.bits, c.read_codes.ensures.len)

pub bits_of_rows-there-requires-clause-short : goal.bits_of_rows-there-requires-clause-short
bits_of_rows-there-requires-clause-short c =
    let s = c.self.inside in
    let rows : length c.args.self.now ≡ c.self.inside.rows = ap length (sym c.self.view_is) ∙ length-plane_cells c.self.inside.rows c.self.inside.base c.self.inside.width c.self.inside.present.now c.self.inside.planes.now in
    omega (arith, rows, c.requires.inside, c.self.invariant.few)

pub returns-clause-distances : goal.returns-clause-distances
returns-clause-distances c =
    let s = c.self.inside in
    let rows : length c.args.self.now ≡ c.self.inside.rows = ap length (sym c.self.view_is) ∙ length-plane_cells c.self.inside.rows c.self.inside.base c.self.inside.width c.self.inside.present.now c.self.inside.planes.now in
    let at = c.args.at in
    let n = length c.args.out.now in
    let inside : at + n ≤ s.rows = omega (arith, rows, c.requires.inside) in
    let fits : FitsSigned w64 c.self.inside.base = search rules in
    let fits_z : FitsSigned w64 c.args.base = search rules in
    let size : c.div_ceil.result ≡ presence_size s.rows = omega (arith, c.div_ceil.ensures) in
    let first : c.cast_unsigned.result ≡ cast_unsigned w64 s.base = c.cast_unsigned.ensures ∙ ap (of_z w64) (to_z-of_z w64 s.base fits) in
    let second : c.cast_unsigned-2.result ≡ cast_unsigned w64 c.args.base = c.cast_unsigned-2.ensures ∙ ap (of_z w64) (to_z-of_z w64 c.args.base fits_z) in
    let up : (c.cast_unsigned.result + (2 ^ 64 - c.cast_unsigned-2.result)) % 2 ^ 64 ≡ (cast_unsigned w64 s.base + (2 ^ 64 - cast_unsigned w64 c.args.base)) % 2 ^ 64 =
    ap (λ m. (m + (2 ^ 64 - c.cast_unsigned-2.result)) % 2 ^ 64) first ∙ ap (λ m. (cast_unsigned w64 s.base + (2 ^ 64 - m)) % 2 ^ 64) second in
    plane_distances_in s.rows at n s.base s.width s.present.now s.planes.now inside c.args.base c.lift.new.numbers (c.lift.ensures.len ∙ c.read_codes.ensures.len)
    (λ r h.
    let here : r < length c.read_codes.new.out = omega (arith, h, c.read_codes.ensures.len) in
    let there : bit_of c.bits_of_rows-there.result r ≡ has_in s.present.now (at + r) = c.bits_of_rows-there.ensures r ∙ rw (lt-ltb r (length c.read_codes.new.out) here) (and_true (bit_of (get_or s.present.now ((at + r) / 8) 0) ((at + r) % 8))) in
    let code : get_or c.read_codes.new.out r 0 ≡ code_in s.width (presence_size s.rows) s.planes.now (at + r) = c.read_codes.ensures.codes r h ∙ ap (λ m. code_in s.width m s.planes.now (at + r)) size in
    lifted s.rows at n s.base s.width s.present.now s.planes.now inside c.self.invariant.are c.self.invariant.wide fits c.args.base ((c.cast_unsigned.result + (2 ^ 64 - c.cast_unsigned-2.result)) % 2 ^ 64) r (get_or c.lift.new.numbers r 0) (bit_of c.bits_of_rows-there.result r) fits_z h there up
    (rw code at (c.lift.ensures.each r here)))
    ∙ ap (λ xs. map (distance_from c.args.base) (take n (drop at xs))) c.self.view_is

pub returns-clause-present : goal.returns-clause-present
returns-clause-present c i =
    let s = c.self.inside in
    let rows : length c.args.self.now ≡ c.self.inside.rows = ap length (sym c.self.view_is) ∙ length-plane_cells c.self.inside.rows c.self.inside.base c.self.inside.width c.self.inside.present.now c.self.inside.planes.now in
    let at = c.args.at in
    let n = length c.args.out.now in
    plane_presence_in s.rows at n s.base s.width s.present.now s.planes.now (omega (arith, rows, c.requires.inside)) (bit_of c.bits_of_rows-there.result i) i (rw c.read_codes.ensures.len at (c.bits_of_rows-there.ensures i))
    ∙ ap (λ xs. is_some (get_or (take n (drop at xs)) i None)) c.self.view_is
