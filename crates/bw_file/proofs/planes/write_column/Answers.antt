use Rattle.std.proofs.Common.{All, FitsSigned, of_z, rules, subst, sym, to_z, w64, ◌≡◌}
use Rattle.std.proofs.lemmas.Int.{to_z-of_z}
use Rattle.bw_file.specs.Planes.{IsNear}
use Rattle.bw_file.proofs.Near.{near_within}
use Rattle.bw_file.proofs.planes.write_column.Goals as goal

pub write_planes-requires-clause-near : goal.write_planes-requires-clause-near
write_planes-requires-clause-near g c =
    let cells = g.C.Cells.cells c.args.column.now in
    let fits : FitsSigned w64 c.args.offset.base = search rules in
    let same : to_z w64 (of_z w64 c.args.offset.base) ≡ c.args.offset.base = to_z-of_z w64 c.args.offset.base fits in
    subst (λ z. All (IsNear z c.args.offset.width) cells) (sym same) (near_within c.args.offset cells c.requires.wide c.requires.within)
