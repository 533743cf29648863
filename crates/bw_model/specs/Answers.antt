-- The rows that a statement returns: headings, and lines with one cell for each (SQL-92, query expression).
use Rattle.std.specs.Prelude.{◌≡◌, ◌*◌, ◌/◌, ◌<◌, ℕ, List, length, replicate}
use Rattle.bw_sql.specs.Rows.{rows_of}
use Rattle.bw_model.specs.declared.answer.Heading.{Heading}
use Rattle.bw_model.specs.declared.answer.Cell.{Cell}

pub record Shown : Type 0 where
  pub headings : List Heading
  pub lines : List (List Cell)

-- flat cells that make whole lines of this width
pub record AreWholeLines {A : Type 0} (width : ℕ) (cells : List A) : Type 0 where
  pub some : 0 < width
  pub count : ℕ
  pub whole : length cells ≡ count * width

-- the lines of this width
abbrev pub lines_of : {A : Type 0} → ℕ → List A → List (List A)
lines_of width cells = rows_of (replicate (length cells / width) width) cells
