use Rattle.std.proofs.Common.{arith}
use Rattle.bw_code.proofs.Lists.{made_len}
use Rattle.bw_column.proofs.distances.ColumnMeasured.planes.Goals as goal

pub lent_planes-requires-clause-inside : goal.lent_planes-requires-clause-inside
lent_planes-requires-clause-inside c = grind (arith, made_len)
