use Rattle.std.proofs.Common.{◌≡◌}
use Rattle.bw_bench.proofs.codes.column_of.Given as goal

abbrev pub invariant-loop-code : goal.invariant-loop-code
invariant-loop-code l = l.column.width ≡ 32
