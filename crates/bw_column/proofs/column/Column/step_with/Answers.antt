use Rattle.std.proofs.Common.{refl, ◌++◌}
use Rattle.bw_column.specs.Preparing.{after}
use Rattle.bw_column.specs.Values.{known}
use Rattle.bw_column.proofs.Grown.{fit_coded}
use Rattle.bw_column.proofs.Known.{both_coded}
use Rattle.bw_column.proofs.column.Column.step_with.Goals as goal

pub returns-in_ok-step-in-Dictionary-clause-coded : goal.returns-in_ok-step-in-Dictionary-clause-coded
returns-in_ok-step-in-Dictionary-clause-coded g c =
    let own = c.args.self.now.values in
    let values = g.C.Cells.cells c.args.values.now in
    let both = c.in_ok-step-in-Dictionary in
    let e = (after c.step_to_entries.new.self both.step).encoding in
    let list = known (own ++ values) in
    (both_coded e own values list refl (fit_coded list e both.ensures.kind both.ensures.fits)).1
