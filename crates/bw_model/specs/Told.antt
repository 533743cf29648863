-- What the text of replies determines about them (this product's own).
use Rattle.std.specs.Prelude.{◌<◌, ◌^◌, All, FitsSigned, codes, map}
use Rattle.std.specs.Int.{w128}
use Rattle.bw_sql.specs.Names.{IsName}
use Rattle.bw_model.specs.declared.answer.Heading.{Heading}
use Rattle.bw_model.specs.declared.answer.Heading.TheVariants as heading
use Rattle.bw_model.specs.declared.answer.Cell.{Cell}
use Rattle.bw_model.specs.declared.answer.Cell.TheVariants as cell
use Rattle.bw_model.specs.declared.refusal.Refusal.{Refusal}
use Rattle.bw_model.specs.declared.refusal.Refusal.TheVariants as refusal
use Rattle.bw_model.specs.declared.reply.Reply.{Reply}
use Rattle.bw_model.specs.declared.reply.Reply.TheVariants as reply

-- what the text of a reply requires: names are valid, and numbers fit

abbrev pub IsHeading : Heading → Type 0
IsHeading (heading.Column name) = IsName name
IsHeading (heading.Count name) = IsName name
IsHeading (heading.Sum name) = IsName name
IsHeading (heading.Min name) = IsName name
IsHeading (heading.Max name) = IsName name
IsHeading (heading.Median name) = IsName name
IsHeading _ = Unit {0}

abbrev pub IsCell : Cell → Type 0
IsCell cell.Null = Unit {0}
IsCell (cell.Number n) = FitsSigned w128 n
IsCell (cell.Name name) = IsName name

abbrev pub IsRefusal : Refusal → Type 0
IsRefusal (refusal.WrongNumberOfFields record') = record' < 2 ^ 64
IsRefusal (refusal.NotInteger record' field) = (record' < 2 ^ 64) × (field < 2 ^ 64)
IsRefusal _ = Unit {0}

abbrev pub IsReply : Reply → Type 0
IsReply reply.Done = Unit {0}
IsReply (reply.Count n) = n < 2 ^ 64
IsReply (reply.Units n) = n < 2 ^ 64
IsReply (reply.Rows answer) = All IsHeading answer.headings × All (All IsCell) answer.lines
IsReply (reply.Refused refusal) = IsRefusal refusal

-- The headings COLUMNS and ROWS of a list of tables read like columns of these names.
abbrev pub heading_as_read : Heading → Heading
heading_as_read heading.Columns = heading.Column (codes "COLUMNS")
heading_as_read heading.Rows = heading.Column (codes "ROWS")
heading_as_read other = other

abbrev pub as_read : Reply → Reply
as_read (reply.Rows answer) = reply.Rows (record { headings = map heading_as_read answer.headings; lines = answer.lines })
as_read other = other
