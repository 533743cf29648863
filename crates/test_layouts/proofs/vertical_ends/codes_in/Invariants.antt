use Rattle.std.proofs.Common.{vec_len, ◌≡◌}
use Rattle.bw_code.specs.Columns.{Fit}
use Rattle.test_layouts.proofs.vertical_ends.codes_in.Given as goal

abbrev pub invariant-loop-row : goal.invariant-loop-row
invariant-loop-row g l = record { count : vec_len l.codes ≡ l.row; fit : Fit l.width l.codes.items }
