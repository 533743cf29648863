-- The cells of an answer: values only, or cells of any kind.
use Rattle.std.specs.Prelude.{List, map}
use Rattle.bw_model.specs.Select.{shown}
use Rattle.bw_model.specs.Store.{Value}
use Rattle.bw_model.specs.declared.answer.Cell.{Cell}
use Rattle.bw_model.specs.declared.answer.Cells.{Cells}
use Rattle.bw_model.specs.declared.answer.Cells.TheVariants as lent
use Rattle.bw_model.specs.declared.answer.Kept.{Kept}
use Rattle.bw_model.specs.declared.answer.Kept.TheVariants as kept

abbrev pub shown_all : List Value → List Cell
shown_all values = map shown values

abbrev pub cells_in : Cells → List Cell
cells_in (lent.Values values) = shown_all values.now
cells_in (lent.Mixed cells) = cells.now

abbrev pub cells_kept : Kept → List Cell
cells_kept (kept.Values values) = shown_all values.items
cells_kept (kept.Mixed cells) = cells.items
