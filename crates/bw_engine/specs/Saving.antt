-- The cells that a SAVE writes of a column.
use Rattle.std.specs.Prelude.{List, Option, ℤ}
use Rattle.bw_engine.specs.declared.live_cells.LiveCells.{LiveCells}
use Rattle.bw_engine.specs.declared.live_cells.LiveCells.TheVariants.{Ended, Tight}

abbrev pub saved_cells : LiveCells → List (Option ℤ)
saved_cells (Tight column) = column.now.values
saved_cells (Ended cells) = cells
