-- Worked examples of merges, computed by the definitions: five rows of A and B in two lists.
use Rattle.std.proofs.Common.{List, None, Some, [], codes, negsuc, pos, refl, ℕ, ◌++◌, ◌≡◌, ◌∷◌}
use Rattle.bw_code.specs.declared.kind.ColumnType.TheVariants.{Integer}
use Rattle.bw_code.specs.declared.kind.Kind.TheVariants.{Offset}
use Rattle.bw_code.specs.declared.kind.Layout.TheVariants.{V}
use Rattle.bw_sql.specs.declared.tree.SelectItem.{SelectItem}
use Rattle.bw_sql.specs.declared.tree.SelectItem.TheVariants as item
use Rattle.bw_sql.specs.declared.tree.SetFunction.TheVariants as function
use Rattle.bw_model.specs.Groups.{group_values, groups_by}
use Rattle.bw_model.specs.Select.{lines_for}
use Rattle.bw_model.specs.Store.{Header, Row, Value}
use Rattle.bw_model.specs.declared.answer.Cell.{Cell}
use Rattle.bw_model.specs.declared.answer.Cell.TheVariants.{Null, Number}
use Rattle.bw_merge.specs.Merging.{GroupLine, group_lines, merged_groups, merged_line, merged_lines}

abbrev a : List ℕ
a = codes "A"

abbrev b : List ℕ
b = codes "B"

abbrev header : List ℕ → Header
header name = record { name = name; column_type = Integer; layout = V; kind = Offset }

abbrev headers : List Header
headers = header a ∷ header b ∷ []

abbrev of : ℕ → Value
of n = Some (pos n)

abbrev one : List Row
one = (of 2 ∷ of 10 ∷ []) ∷ (None ∷ None ∷ []) ∷ (of 1 ∷ None ∷ []) ∷ []

abbrev other : List Row
other = (of 2 ∷ Some (negsuc 2) ∷ []) ∷ (of 4 ∷ of 7 ∷ []) ∷ []

abbrev nulls : List Row
nulls = (None ∷ None ∷ []) ∷ []

-- COUNT(*), COUNT(B), SUM(B), MIN(B), MAX(B)
abbrev items : List SelectItem
items =
    item.CountRows
    ∷ item.Function function.Count b
    ∷ item.Function function.Sum b
    ∷ item.Function function.Min b
    ∷ item.Function function.Max b
    ∷ []

abbrev of_one : List Cell
of_one = Number (pos 3) ∷ Number (pos 1) ∷ Number (pos 10) ∷ Number (pos 10) ∷ Number (pos 10) ∷ []

abbrev of_other : List Cell
of_other = Number (pos 2) ∷ Number (pos 2) ∷ Number (pos 4) ∷ Number (negsuc 2) ∷ Number (pos 7) ∷ []

abbrev of_both : List Cell
of_both = Number (pos 5) ∷ Number (pos 3) ∷ Number (pos 14) ∷ Number (negsuc 2) ∷ Number (pos 10) ∷ []

said_of_one : lines_for headers items None one ≡ of_one ∷ []
said_of_one = refl

said_of_other : lines_for headers items None other ≡ of_other ∷ []
said_of_other = refl

said_of_both : lines_for headers items None (one ++ other) ≡ of_both ∷ []
said_of_both = refl

merged_of_both : merged_line items of_one of_other ≡ of_both
merged_of_both = refl

-- a list whose values are all NULL changes counts of rows alone, and of two such lists SUM, MIN and MAX are NULL
with_nulls : lines_for headers items None (nulls ++ other)
    ≡ merged_line items (Number (pos 1) ∷ Number (pos 0) ∷ Null ∷ Null ∷ Null ∷ []) of_other ∷ []
with_nulls = refl

nulls_alone : lines_for headers items None (nulls ++ nulls) ≡ (Number (pos 2) ∷ Number (pos 0) ∷ Null ∷ Null ∷ Null ∷ []) ∷ []
nulls_alone = refl

-- the groups by A: 2 and NULL and 1 of the one list, 2 and 4 of the other
values_of_both : group_values (of 2 ∷ None ∷ of 1 ∷ of 2 ∷ of 4 ∷ []) ≡ of 1 ∷ of 2 ∷ of 4 ∷ None ∷ []
values_of_both = refl

groups_of_both : groups_by (Some 0) (one ++ other) ≡ merged_groups (groups_by (Some 0) one) (groups_by (Some 0) other)
groups_of_both = refl

-- A, COUNT(*), SUM(B) .. GROUP BY A: 2 is in both, and each other value in one
abbrev shown : List SelectItem
shown = item.Column a ∷ item.CountRows ∷ item.Function function.Sum b ∷ []

abbrev line : Value → Cell → Cell → Cell → GroupLine
line value first second third = (value, first ∷ second ∷ third ∷ [])

lines_of_one : group_lines headers shown (Some 0) one
    ≡ line (of 1) (Number (pos 1)) (Number (pos 1)) Null
    ∷ line (of 2) (Number (pos 2)) (Number (pos 1)) (Number (pos 10))
    ∷ line None Null (Number (pos 1)) Null
    ∷ []
lines_of_one = refl

lines_of_other : group_lines headers shown (Some 0) other
    ≡ line (of 2) (Number (pos 2)) (Number (pos 1)) (Number (negsuc 2))
    ∷ line (of 4) (Number (pos 4)) (Number (pos 1)) (Number (pos 7))
    ∷ []
lines_of_other = refl

lines_of_both : merged_lines shown (group_lines headers shown (Some 0) one) (group_lines headers shown (Some 0) other)
    ≡ line (of 1) (Number (pos 1)) (Number (pos 1)) Null
    ∷ line (of 2) (Number (pos 2)) (Number (pos 2)) (Number (pos 7))
    ∷ line (of 4) (Number (pos 4)) (Number (pos 1)) (Number (pos 7))
    ∷ line None Null (Number (pos 1)) Null
    ∷ []
lines_of_both = refl
