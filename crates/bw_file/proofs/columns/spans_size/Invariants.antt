use Rattle.std.proofs.Common.{◌*◌, ◌≤◌}
use Rattle.bw_file.proofs.columns.spans_size.Given as goal

abbrev pub invariant-columns : goal.invariant-columns
invariant-columns g l = l.size ≤ 136314889 * l.i
