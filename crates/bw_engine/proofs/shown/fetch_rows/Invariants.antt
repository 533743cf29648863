use Rattle.std.proofs.Common.{◌+◌, ◌++◌, ◌≡◌}
use Rattle.bw_mask.specs.Masks.{bit_of}
use Rattle.bw_engine.specs.Runs.{lines_from, slot_line}
use Rattle.bw_engine.proofs.shown.fetch_rows.Given as goal

-- the lines of the slots so far
abbrev pub invariant-loop-i : goal.invariant-loop-i
invariant-loop-i l = l.values.items ≡ l.fn.values.items ++ lines_from (λ i. slot_line l.places l.table.slots (l.at + i)) (bit_of l.word) 0 l.i
