-- What TABLES returns (this product's own).
use Rattle.std.specs.Prelude.{ℕ, pos, List, [], ◌∷◌, length, map}
use Rattle.bw_model.specs.Answers.{Shown}
use Rattle.bw_model.specs.Store.{Store, Table}
use Rattle.bw_model.specs.declared.answer.Cell.{Cell}
use Rattle.bw_model.specs.declared.answer.Cell.TheVariants.{Name, Number}
use Rattle.bw_model.specs.declared.answer.Heading.TheVariants as heading

-- a table's name, its number of columns and its number of rows
abbrev pub table_line : List ℕ × Table → List Cell
table_line entry = Name entry.0 ∷ Number (pos (length entry.1.headers)) ∷ Number (pos (length entry.1.rows)) ∷ []

-- a line for each table, in the order of their creation
abbrev pub listing : Store → Shown
listing store = record {
  headings = heading.Table ∷ heading.Columns ∷ heading.Rows ∷ [];
  lines = map table_line store;
}
