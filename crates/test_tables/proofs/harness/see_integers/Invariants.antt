use Rattle.std.proofs.Common.{Option, get_or, ℕ, ℤ, ◌<◌}
use Rattle.bw_code.specs.Types.{IsNullOrOfType}
use Rattle.bw_code.specs.declared.kind.ColumnType.TheVariants.{Integer}
use Rattle.test_tables.proofs.harness.see_integers.Given as goal

abbrev pub invariant-loop-cell : goal.invariant-loop-cell
invariant-loop-cell l = (k : ℕ) (d : Option ℤ) → k < l.cell-index → IsNullOrOfType Integer (get_or l.cells k d)
