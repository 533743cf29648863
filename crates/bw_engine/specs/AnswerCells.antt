-- The cells of an answer as they are collected.
use Rattle.std.specs.Prelude.{List}
use Rattle.bw_model.specs.Cells.{shown_all}
use Rattle.bw_model.specs.declared.answer.Cell.{Cell}
use Rattle.bw_engine.specs.declared.answer_cells.AnswerCells.{AnswerCells}
use Rattle.bw_engine.specs.declared.answer_cells.AnswerCells.TheVariants.{Mixed, Values}

-- the list of the cells
abbrev pub collected : AnswerCells → List Cell
collected (Values values) = shown_all values.items
collected (Mixed cells) = cells.items
