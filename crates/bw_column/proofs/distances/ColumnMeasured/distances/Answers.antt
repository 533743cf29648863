use Rattle.std.proofs.Common.{arith}
use Rattle.bw_code.proofs.Lists.{made_len}
use Rattle.bw_column.proofs.distances.ColumnMeasured.distances.Goals as goal

pub distances_by_offset-requires-clause-there : goal.distances_by_offset-requires-clause-there
distances_by_offset-requires-clause-there c = grind (arith, made_len)

pub distances_by_entries-requires-clause-there : goal.distances_by_entries-requires-clause-there
distances_by_entries-requires-clause-there c = grind (arith, made_len)
