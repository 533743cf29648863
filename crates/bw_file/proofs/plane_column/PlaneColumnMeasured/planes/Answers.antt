use Rattle.std.proofs.Common.{FitsSigned, None, [], ap, arith, drop, get_or, is_some, length, map, nat_lt, rules, subst, sym, take, to_z, w64, ◌&&◌, ◌+◌, ◌-◌, ◌<◌, ◌==◌, ◌≡◌, ◌≤◌, ◌∙◌}
use Rattle.std.proofs.lemmas.Int.{to_z-of_z}
use Rattle.bw_cells.specs.Distances.{distance_from}
use Rattle.bw_mask.specs.Masks.{bit_of, row_in}
use Rattle.bw_file.specs.Cells.{presence_size}
use Rattle.bw_file.specs.Planes.{cells_in, plane_bit}
use Rattle.bw_file.proofs.PlaneEnds.{length-plane_cells}
use Rattle.bw_file.proofs.PlaneRuns.{plane_bits, plane_presence_in}
use Rattle.bw_file.proofs.plane_column.PlaneColumnMeasured.planes.Goals as goal

pub read_block-requires-clause-inside : goal.read_block-requires-clause-inside
read_block-requires-clause-inside c =
    let rows : length c.args.self.now ≡ c.self.inside.rows = ap length (sym c.self.view_is) ∙ length-plane_cells c.self.inside.rows c.self.inside.base c.self.inside.width c.self.inside.present.now c.self.inside.planes.now in
    omega (arith, rows, c.requires.inside, c.div_ceil.ensures)

pub read_rows-requires-clause-there : goal.read_rows-requires-clause-there
read_rows-requires-clause-there c =
    let rows : length c.args.self.now ≡ c.self.inside.rows = ap length (sym c.self.view_is) ∙ length-plane_cells c.self.inside.rows c.self.inside.base c.self.inside.width c.self.inside.present.now c.self.inside.planes.now in
    omega (arith, rows, c.requires.inside, c.self.invariant.are.bits)

pub read_rows-requires-clause-short : goal.read_rows-requires-clause-short
read_rows-requires-clause-short c =
    let rows : length c.args.self.now ≡ c.self.inside.rows = ap length (sym c.self.view_is) ∙ length-plane_cells c.self.inside.rows c.self.inside.base c.self.inside.width c.self.inside.present.now c.self.inside.planes.now in
    omega (arith, rows, c.requires.inside, c.self.invariant.few)

pub returns-clause-planes : goal.returns-clause-planes
returns-clause-planes c b r l m =
    let s = c.self.inside in
    let rows : length c.args.self.now ≡ c.self.inside.rows = ap length (sym c.self.view_is) ∙ length-plane_cells c.self.inside.rows c.self.inside.base c.self.inside.width c.self.inside.present.now c.self.inside.planes.now in
    let at = c.args.at in
    let n = c.args.count in
    let inside : at + n ≤ s.rows = omega (arith, rows, c.requires.inside) in
    let fits : FitsSigned w64 c.self.inside.base = search rules in
    let size : c.div_ceil.result ≡ presence_size s.rows = omega (arith, c.div_ceil.ensures) in
    let wide : c.args.k ≡ c.self.inside.width = c.if-k-self.false in
    let fits_z : FitsSigned w64 c.args.base = search rules in
    let base : c.self.inside.base ≡ c.args.base = sym (to_z-of_z w64 c.self.inside.base fits) ∙ ap (to_z w64) (sym c.if-base-self.false) ∙ to_z-of_z w64 c.args.base fits_z in
    plane_bits s.rows at n s.base s.width s.present.now s.planes.now inside c.self.invariant.are c.self.invariant.wide fits (row_in (get_or c.read_block.new.block b []) r) r b (subst (λ k. b < k) wide l) c.self.invariant.narrow
    (c.read_block.ensures b r l m
    ∙ ap (λ q. (plane_bit q c.self.inside.planes.now (c.args.k - 1 - b) (c.args.at + r) == 1) && nat_lt r c.args.count) size
    ∙ ap (λ k. (plane_bit (presence_size c.self.inside.rows) c.self.inside.planes.now (k - 1 - b) (c.args.at + r) == 1) && nat_lt r c.args.count) wide)
    ∙ ap (λ z. bit_of (get_or (map (distance_from z) (take c.args.count (drop c.args.at (cells_in s.rows s.base s.width s.present.now s.planes.now)))) r 0) b) base
    ∙ ap (λ xs. bit_of (get_or (map (distance_from c.args.base) (take c.args.count (drop c.args.at xs))) r 0) b) c.self.view_is

pub returns-clause-present : goal.returns-clause-present
returns-clause-present c i =
    let s = c.self.inside in
    let rows : length c.args.self.now ≡ c.self.inside.rows = ap length (sym c.self.view_is) ∙ length-plane_cells c.self.inside.rows c.self.inside.base c.self.inside.width c.self.inside.present.now c.self.inside.planes.now in
    plane_presence_in s.rows c.args.at c.args.count s.base s.width s.present.now s.planes.now (omega (arith, rows, c.requires.inside)) (row_in c.read_rows.new.words i) i (c.read_rows.ensures i)
    ∙ ap (λ xs. is_some (get_or (take c.args.count (drop c.args.at xs)) i None)) c.self.view_is
