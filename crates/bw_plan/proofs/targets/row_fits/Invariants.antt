use Rattle.std.proofs.Common.{None, get_or, true, ℕ, ◌<◌, ◌≡◌}
use Rattle.bw_code.specs.Types.{is_null_or_of_type}
use Rattle.bw_code.specs.declared.kind.ColumnType.TheVariants.{Integer}
use Rattle.bw_model.specs.Refusals.{types_named}
use Rattle.bw_plan.specs.Targeting.{names_of}
use Rattle.bw_plan.proofs.targets.row_fits.Given as goal

-- the values so far are of their types
abbrev pub invariant-loop-k : goal.invariant-loop-k
invariant-loop-k l = (i : ℕ) → i < l.k → is_null_or_of_type (get_or (types_named l.headers (names_of l.headers l.targets)) i Integer) (get_or l.row i None) ≡ true
