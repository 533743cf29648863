use Rattle.std.proofs.Common.{◌≡◌, ◌≤◌}
use Rattle.bw_mask.specs.Masks.{bit_of}
use Rattle.bw_groups.specs.Runs.{AreFilled}
use Rattle.bw_engine.specs.Runs.{lines_from, value_line}
use Rattle.bw_engine.proofs.found_cells.gather_cells.Given as goal

-- the values of the rows so far
abbrev pub invariant-rows : goal.invariant-rows
invariant-rows g l = record {
  few : l.len ≤ l.i;
  filled : AreFilled l.base (lines_from (value_line (g.C.SlotCells.cells l.cells) l.at) (bit_of l.word) 0 l.i) l.len l.out l.there;
}
