use Rattle.std.proofs.Common.{vec_len, ◌≡◌}
use Rattle.bw_code.specs.Columns.{Fit}
use Rattle.bw_bench.proofs.layouts.codes_of.Given as goal

abbrev pub invariant-loop-row : goal.invariant-loop-row
invariant-loop-row l = record { count : vec_len l.codes ≡ l.row; fit : Fit l.width l.codes.items }
