use Rattle.std.proofs.Common.{◌++◌, ◌≡◌}
use Rattle.bw_mask.specs.Masks.{bit_of}
use Rattle.bw_engine.specs.Runs.{line_across, lines_from}
use Rattle.bw_engine.proofs.shown.show_rows.Given as goal

-- the lines of the rows so far
abbrev pub invariant-loop-i : goal.invariant-loop-i
invariant-loop-i l = l.values.items ≡ l.fn.values.items ++ lines_from (line_across l.runs) (bit_of l.word) 0 l.i
