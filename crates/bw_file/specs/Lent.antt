-- The cells of a column, whatever the version of its file.
use Rattle.std.specs.Prelude.{List, Option, ℤ}
use Rattle.bw_file.specs.declared.column.LentColumn.{LentColumn}
use Rattle.bw_file.specs.declared.column.LentColumn.TheVariants.{Planes, Words}

abbrev pub lent_cells : LentColumn → List (Option ℤ)
lent_cells (Words cells) = cells
lent_cells (Planes cells) = cells
