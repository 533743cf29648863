use Rattle.std.proofs.Common.{vec_len, ◌≡◌}
use Rattle.bw_code.specs.Columns.{Fit}
use Rattle.test_layouts.proofs.copies.codes_to_move.Given as goal

abbrev pub invariant-loop-row : goal.invariant-loop-row
invariant-loop-row g l = record { count : vec_len l.list ≡ l.row; fit : Fit l.own l.list.items }
