use Rattle.std.proofs.Common.{All}
use Rattle.bw_code.specs.Types.{IsNullOrOfType}
use Rattle.bw_code.specs.declared.kind.ColumnType.TheVariants.{Integer}
use Rattle.test_tables.proofs.harness.wide_cells.Given as goal

abbrev pub invariant-loop-i : goal.invariant-loop-i
invariant-loop-i g l = All (IsNullOrOfType Integer) l.wide_cells.items
