-- The cells of a column in the rows of its table.
use Rattle.std.specs.Prelude.{List, Option, ℤ}
use Rattle.bw_engine.specs.declared.ended_cells.RowCells.{RowCells}
use Rattle.bw_engine.specs.declared.ended_cells.RowCells.TheVariants.{Chosen, Whole}

abbrev pub row_cells : RowCells → List (Option ℤ)
row_cells (Whole column) = column.now.values
row_cells (Chosen cells) = cells
