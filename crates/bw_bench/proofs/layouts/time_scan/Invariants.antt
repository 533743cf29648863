use Rattle.std.proofs.Common.{◌≡◌}
use Rattle.bw_mask.specs.Masks.{len}
use Rattle.bw_code.specs.Columns.{count}
use Rattle.bw_bench.proofs.layouts.time_scan.Given as goal

abbrev pub invariant-loop : goal.invariant-loop
invariant-loop g l = len l.rows ≡ count (g.C.CodeColumn.seen l.column)
