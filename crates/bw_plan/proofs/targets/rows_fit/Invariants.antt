use Rattle.std.proofs.Common.{length}
use Rattle.bw_code.specs.Types.{are_of_types}
use Rattle.bw_model.specs.Refusals.{types_named}
use Rattle.bw_sql.specs.Rows.{joined}
use Rattle.bw_plan.specs.Targeting.{names_of}
use Rattle.bw_plan.proofs.Targeting.{Looks}
use Rattle.bw_plan.proofs.targets.rows_fit.Given as goal

abbrev pub invariant-loop-rest : goal.invariant-loop-rest
invariant-loop-rest l = Looks (are_of_types (types_named l.headers (names_of l.headers l.targets))) l.width (joined l.rows) l.rest

abbrev pub decreases-loop-rest : goal.decreases-loop-rest
decreases-loop-rest l = length l.rest
