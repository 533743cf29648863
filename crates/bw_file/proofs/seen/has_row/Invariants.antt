use Rattle.std.proofs.Common.{◌≤◌}
use Rattle.bw_file.proofs.seen.has_row.Given as goal

abbrev pub invariant-loop-j : goal.invariant-loop-j
invariant-loop-j l = l.j ≤ 32
