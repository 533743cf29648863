use Rattle.std.proofs.Common.{length, ℕ, ◌%◌, ◌<◌}
use Rattle.bw_code.specs.Types.{IsNullOrOfType, types_of}
use Rattle.bw_column.specs.Values.{value_at}
use Rattle.bw_table.specs.Changes.{type_at}
use Rattle.test_tables.proofs.harness.check_types.Given as goal

abbrev pub invariant-loop-i : goal.invariant-loop-i
invariant-loop-i g l = (k : ℕ) → k < l.i → IsNullOrOfType (type_at (types_of l.table.headers) (k % length l.table.headers)) (value_at l.cells k)
