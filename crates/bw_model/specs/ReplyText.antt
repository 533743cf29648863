-- The bytes of a reply: its lines, each ended by the byte 10 (this product's own; names and NULL are spelled as SQL-92's regular identifiers and null specification).
use Rattle.std.specs.Prelude.{ℕ, List, ◌++◌, length, codes, decimal}
use Rattle.std.specs.Fmt.{signed_decimal}
use Rattle.std.specs.List.{flat_map, join_by}
use Rattle.bw_model.specs.Answers.{Shown}
use Rattle.bw_model.specs.declared.answer.Heading.{Heading}
use Rattle.bw_model.specs.declared.answer.Heading.TheVariants as heading
use Rattle.bw_model.specs.declared.answer.Cell.{Cell}
use Rattle.bw_model.specs.declared.answer.Cell.TheVariants as cell
use Rattle.bw_model.specs.declared.refusal.Refusal.{Refusal}
use Rattle.bw_model.specs.declared.refusal.Refusal.TheVariants as refusal
use Rattle.bw_model.specs.declared.reply.Reply.{Reply}
use Rattle.bw_model.specs.declared.reply.Reply.TheVariants as reply

abbrev pub line : List ℕ → List ℕ
line text = text ++ codes "\n"

-- a set function over a column
abbrev pub call_text : List ℕ → List ℕ → List ℕ
call_text function column = function ++ codes "(" ++ column ++ codes ")"

abbrev pub heading_text : Heading → List ℕ
heading_text (heading.Column name) = name
heading_text heading.CountRows = codes "COUNT(*)"
heading_text (heading.Count name) = call_text (codes "COUNT") name
heading_text (heading.Sum name) = call_text (codes "SUM") name
heading_text (heading.Min name) = call_text (codes "MIN") name
heading_text (heading.Max name) = call_text (codes "MAX") name
heading_text (heading.Median name) = call_text (codes "MEDIAN") name
heading_text heading.Table = codes "TABLE"
heading_text heading.Columns = codes "COLUMNS"
heading_text heading.Rows = codes "ROWS"

abbrev pub cell_text : Cell → List ℕ
cell_text cell.Null = codes "NULL"
cell_text (cell.Number n) = signed_decimal n
cell_text (cell.Name name) = name

-- texts, separated by commas
abbrev pub with_commas : {A : Type 0} → (A → List ℕ) → List A → List ℕ
with_commas text items = join_by text (codes ",") items

abbrev pub lines_text : List (List Cell) → List ℕ
lines_text lines = flat_map (λ cells. line (with_commas cell_text cells)) lines

-- the headings, the lines, and the number of lines
abbrev pub answer_text : Shown → List ℕ
answer_text shown =
    line (with_commas heading_text shown.headings)
    ++ lines_text shown.lines
    ++ line (codes "rows " ++ decimal (length shown.lines))

abbrev pub refusal_text : Refusal → List ℕ
refusal_text refusal.Syntax = codes "error 10: syntax error"
refusal_text refusal.StatementTooLong = codes "error 11: statement too long"
refusal_text refusal.NestedTooDeeply = codes "error 12: nested too deeply"
refusal_text refusal.NumberTooLarge = codes "error 13: number too large"
refusal_text refusal.NoSuchTable = codes "error 20: no such table"
refusal_text refusal.TableExists = codes "error 21: table exists"
refusal_text refusal.NoSuchColumn = codes "error 22: no such column"
refusal_text refusal.ColumnNamedTwice = codes "error 23: column named twice"
refusal_text refusal.OverLimit = codes "error 24: over a limit"
refusal_text refusal.WrongNumberOfValues = codes "error 25: wrong number of values"
refusal_text refusal.OutOfRange = codes "error 26: value out of range"
refusal_text refusal.MixedItems = codes "error 27: columns and set functions mixed"
refusal_text refusal.TableFull = codes "error 28: table full"
refusal_text refusal.UnreadableFile = codes "error 40: file cannot be read"
refusal_text refusal.UnwritableFile = codes "error 41: file cannot be written"
refusal_text (refusal.WrongNumberOfFields record') =
    codes "error 42: record " ++ decimal record' ++ codes " has the wrong number of fields"
refusal_text (refusal.NotInteger record' field) =
    codes "error 43: record " ++ decimal record' ++ codes " field " ++ decimal field ++ codes " is not an integer"
refusal_text refusal.NotTableFile = codes "error 44: not a table file"
refusal_text refusal.FileTooLarge = codes "error 46: file too large"
refusal_text refusal.LayoutTooNarrow = codes "error 60: layout H holds no BIGINT"
refusal_text refusal.OutOfMemory = codes "error 90: out of memory"

abbrev pub reply_text : Reply → List ℕ
reply_text reply.Done = line (codes "ok")
reply_text (reply.Count n) = line (codes "ok " ++ decimal n)
reply_text (reply.Units n) = line (codes "units " ++ decimal n)
reply_text (reply.Rows answer) = answer_text answer
reply_text (reply.Refused refusal) = line (refusal_text refusal)
