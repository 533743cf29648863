-- The two forms in which cells are stored in memory.
use Rattle.std.specs.Prelude.{All, Bool, List, Option, false, true, ℤ, ◌≡◌, ⊤}
use Rattle.bw_code.specs.declared.kind.ColumnType.{ColumnType}
use Rattle.bw_code.specs.declared.kind.ColumnType.TheVariants.{BigInt, Integer}
use Rattle.bw_csvload.specs.declared.cells.Cells.{Cells}
use Rattle.bw_csvload.specs.declared.cells.Cells.TheVariants as lent
use Rattle.bw_csvload.specs.declared.cells.CellList.{CellList}
use Rattle.bw_csvload.specs.declared.cells.CellList.TheVariants as list

-- the cells, in either form
abbrev pub cells_of : Cells → List (Option ℤ)
cells_of (lent.Integers cells) = cells.now
cells_of (lent.Values cells) = cells.now

abbrev pub cells_in : CellList → List (Option ℤ)
cells_in (list.Integers cells) = cells.items
cells_in (list.Values cells) = cells.items

abbrev pub is_integer : ColumnType → Bool
is_integer Integer = true
is_integer BigInt = false

-- whether cells of columns of these types fit the form: only INTEGER fits the narrow one
abbrev pub TakesCells : List ColumnType → CellList → Type 0
TakesCells types (list.Integers cells) = All (λ t. t ≡ Integer) types
TakesCells types (list.Values cells) = ⊤
