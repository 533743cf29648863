use Rattle.std.proofs.Common.{All, subst, sym}
use Rattle.std.proofs.lemmas.Option.{IfSome_then}
use Rattle.bw_cells.specs.SetFunctions.{known}
use Rattle.bw_code.specs.declared.ends.Ends.{Ends}
use Rattle.bw_groups.specs.Runs.{IsWithin, values_in}
use Rattle.bw_groups.proofs.groups.scale_of.Goals as goal

pub returns-in-Some : goal.returns-in-Some
returns-in-Some g c =
    IfSome_then c.between.result c.between.ensures (λ scale is. subst (λ (ends : Ends). All (IsWithin ends) (known (values_in (g.C.ValueRuns.runs c.args.column.now)))) (sym is) c.in-Some.ensures)
