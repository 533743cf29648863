use Rattle.std.proofs.Common.{ap, length, subst, sym, ◌≡◌, ◌≤◌, ◌∙◌}
use Rattle.bw_code.specs.Headers.{row_limit}
use Rattle.bw_file.proofs.PlaneEnds.{length-plane_cells}
use Rattle.bw_file.proofs.plane_column.PlaneColumn.rows.Goals as goal

pub returns-clause-count : goal.returns-clause-count
returns-clause-count c = sym (ap length (sym c.self.view_is) ∙ length-plane_cells c.self.inside.rows c.self.inside.base c.self.inside.width c.self.inside.present.now c.self.inside.planes.now)

pub returns-clause-few : goal.returns-clause-few
returns-clause-few c =
    let rows : length c.args.self.now ≡ c.self.inside.rows = ap length (sym c.self.view_is) ∙ length-plane_cells c.self.inside.rows c.self.inside.base c.self.inside.width c.self.inside.present.now c.self.inside.planes.now in
    subst (λ n. n ≤ row_limit) (sym rows) c.self.invariant.few
