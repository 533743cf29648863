use Rattle.std.proofs.Common.{take, ◌≡◌}
use Rattle.bw_model.specs.Cells.{shown_all}
use Rattle.bw_engine.proofs.answer_cells.cells_of_values.Given as goal

-- the cells of the values so far
abbrev pub invariant-loop-value : goal.invariant-loop-value
invariant-loop-value l = l.cells.items ≡ shown_all (take l.value-index l.values)
