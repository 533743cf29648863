use Rattle.std.proofs.Common.{FitsSigned, ap, arith, drop, length, of_z, rules, subst, sym, take, to_z, w64, ◌+◌, ◌≡◌, ◌∙◌}
use Rattle.std.proofs.lemmas.Int.{to_z-of_z}
use Rattle.bw_file.specs.Cells.{presence_size}
use Rattle.bw_file.specs.Planes.{IsWideCell, read_cell}
use Rattle.bw_file.proofs.PlaneEnds.{length-plane_cells}
use Rattle.bw_file.proofs.PlaneRuns.{plane_run_is, wide_at}
use Rattle.bw_file.proofs.plane_column.PlaneColumnCells.read.Goals as goal

pub read_plane_cells-requires : goal.read_plane_cells-requires
read_plane_cells-requires c =
    let s = c.self.inside in
    let inv = c.self.invariant in
    let rows : length c.args.self.now ≡ s.rows = ap length (sym c.self.view_is) ∙ length-plane_cells s.rows s.base s.width s.present.now s.planes.now in
    let fits : FitsSigned w64 s.base = search rules in
    let base : to_z w64 (of_z w64 s.base) ≡ s.base = to_z-of_z w64 s.base fits in
    record {
      narrow = inv.narrow;
      few = inv.few;
      inside = omega (arith, rows, c.requires);
      present = inv.are.bits;
      planes = inv.are.long;
      wide = λ i h. subst (λ z. IsWideCell (read_cell z s.width (presence_size s.rows) s.present.now s.planes.now i)) (sym base) (wide_at s.rows 0 0 s.base s.width s.present.now s.planes.now (omega arith) inv.are inv.wide fits i h);
    }

pub returns : goal.returns
returns c =
    let s = c.self.inside in
    let n = length c.args.out.now in
    let rows : length c.args.self.now ≡ s.rows = ap length (sym c.self.view_is) ∙ length-plane_cells s.rows s.base s.width s.present.now s.planes.now in
    let fits : FitsSigned w64 s.base = search rules in
    let base : to_z w64 (of_z w64 s.base) ≡ s.base = to_z-of_z w64 s.base fits in
    plane_run_is s.rows c.args.at n s.base s.width s.present.now s.planes.now (omega (arith, rows, c.requires)) c.read_plane_cells.new.out c.read_plane_cells.ensures.count
    (λ r h. c.read_plane_cells.ensures.each r h ∙ ap (λ z. read_cell z s.width (presence_size s.rows) s.present.now s.planes.now (c.args.at + r)) base)
    ∙ ap (λ xs. take n (drop c.args.at xs)) c.self.view_is
