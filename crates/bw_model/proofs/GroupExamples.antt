-- Worked examples of groups and of their refusals, computed by the definitions.
use Rattle.std.proofs.Common.{◌≡◌, ℕ, pos, negsuc, List, [], ◌∷◌, Option, Some, None, codes, refl}
use Rattle.bw_code.specs.declared.kind.ColumnType.TheVariants.{Integer}
use Rattle.bw_code.specs.declared.kind.Kind.TheVariants.{Offset}
use Rattle.bw_code.specs.declared.kind.Layout.TheVariants.{V}
use Rattle.bw_lex.specs.declared.token.CompareOp.TheVariants.{Gt}
use Rattle.bw_sql.specs.Tree.{ConditionTree, ItemsTree, SelectTree, all_columns, comparison, listed}
use Rattle.bw_sql.specs.declared.tree.Operand.TheVariants as operand
use Rattle.bw_sql.specs.declared.tree.SelectItem.{SelectItem}
use Rattle.bw_sql.specs.declared.tree.SelectItem.TheVariants as item
use Rattle.bw_sql.specs.declared.tree.SetFunction.TheVariants as function
use Rattle.bw_model.specs.Groups.{group_values}
use Rattle.bw_model.specs.Refusals.{first_that_holds, select_tests}
use Rattle.bw_model.specs.Select.{answer}
use Rattle.bw_model.specs.Store.{Header, Table, Value}
use Rattle.bw_model.specs.declared.answer.Cell.TheVariants.{Null, Number}
use Rattle.bw_model.specs.declared.answer.Heading.TheVariants as heading
use Rattle.bw_model.specs.declared.refusal.Refusal.{Refusal}
use Rattle.bw_model.specs.declared.refusal.Refusal.TheVariants.{MixedItems, NoSuchColumn}

abbrev a : List ℕ
a = codes "A"

abbrev b : List ℕ
b = codes "B"

abbrev z : List ℕ
z = codes "Z"

abbrev header : List ℕ → Header
header name = record { name = name; column_type = Integer; layout = V; kind = Offset }

abbrev of : ℕ → Value
of n = Some (pos n)

-- five rows of A and B
abbrev table : Table
table = record {
  headers = header a ∷ header b ∷ [];
  rows = (of 2 ∷ of 10 ∷ []) ∷ (None ∷ of 5 ∷ []) ∷ (of 1 ∷ None ∷ []) ∷ (of 2 ∷ of 3 ∷ []) ∷ (None ∷ of 7 ∷ []) ∷ [];
}

abbrev query : ItemsTree → Option ConditionTree → Option (List ℕ) → SelectTree
query items condition grouping = record { items = items; table = codes "T"; condition = condition; grouping = grouping }

abbrev refused : ItemsTree → Option (List ℕ) → Option Refusal
refused items grouping = first_that_holds (select_tests (query items None grouping) table.headers)

abbrev column : List ℕ → SelectItem
column name = item.Column name

-- SELECT a, COUNT(*), SUM(b) .. GROUP BY a: two rows have 2, two have NULL, and a sum leaves NULL out
sums : answer table (query (listed (column a ∷ item.CountRows ∷ item.Function function.Sum b ∷ [])) None (Some a))
    ≡ record {
      headings = heading.Column a ∷ heading.CountRows ∷ heading.Sum b ∷ [];
      lines = (Number (pos 1) ∷ Number (pos 1) ∷ Null ∷ []) ∷ (Number (pos 2) ∷ Number (pos 2) ∷ Number (pos 13) ∷ []) ∷ (Null ∷ Number (pos 2) ∷ Number (pos 12) ∷ []) ∷ [];
    }
sums = refl

-- SELECT COUNT(b) .. WHERE b > 100 GROUP BY a: no found row gives no group
no_groups : answer table (query (listed (item.Function function.Count b ∷ [])) (Some (comparison (operand.Column b) Gt (operand.Constant (of 100)))) (Some a))
    ≡ record { headings = heading.Count b ∷ []; lines = [] }
no_groups = refl

-- SELECT a, a .. GROUP BY a: without a set function it is still a line for each group
twice : answer table (query (listed (column a ∷ column a ∷ [])) None (Some a))
    ≡ record {
      headings = heading.Column a ∷ heading.Column a ∷ [];
      lines = (Number (pos 1) ∷ Number (pos 1) ∷ []) ∷ (Number (pos 2) ∷ Number (pos 2) ∷ []) ∷ (Null ∷ Null ∷ []) ∷ [];
    }
twice = refl

-- SELECT MIN(b), MAX(b), MEDIAN(b) .. GROUP BY a: each function is of its group's rows
ends : answer table (query (listed (item.Function function.Min b ∷ item.Function function.Max b ∷ item.Function function.Median b ∷ [])) None (Some a))
    ≡ record {
      headings = heading.Min b ∷ heading.Max b ∷ heading.Median b ∷ [];
      lines = (Null ∷ Null ∷ Null ∷ []) ∷ (Number (pos 3) ∷ Number (pos 10) ∷ Number (pos 3) ∷ []) ∷ (Number (pos 5) ∷ Number (pos 7) ∷ Number (pos 5) ∷ []) ∷ [];
    }
ends = refl

-- SELECT COUNT(*) ..: without groups one line, also of no row
one_line : answer table (query (listed (item.CountRows ∷ [])) None None) ≡ record { headings = heading.CountRows ∷ []; lines = (Number (pos 5) ∷ []) ∷ [] }
one_line = refl

-- NULLs alone are one group, and numbers below 0 come first
nulls : group_values (None ∷ None ∷ []) ≡ None ∷ []
nulls = refl

signs : group_values (of 3 ∷ Some (negsuc 4) ∷ of 0 ∷ None ∷ Some (negsuc 4) ∷ Some (negsuc 0) ∷ of 3 ∷ []) ≡ Some (negsuc 4) ∷ Some (negsuc 0) ∷ of 0 ∷ of 3 ∷ None ∷ []
signs = refl

-- SELECT b, COUNT(*) .. GROUP BY a
another_column : refused (listed (column b ∷ item.CountRows ∷ [])) (Some a) ≡ Some MixedItems
another_column = refl

-- SELECT * .. GROUP BY a
every_column : refused all_columns (Some a) ≡ Some MixedItems
every_column = refl

-- SELECT a .. GROUP BY z, and SELECT * .. GROUP BY z: a column that isn't there comes first
missing_column : refused (listed (column a ∷ [])) (Some z) ≡ Some NoSuchColumn
missing_column = refl

missing_first : refused all_columns (Some z) ≡ Some NoSuchColumn
missing_first = refl

-- SELECT a, COUNT(*) .. is refused without groups alone
without_groups : refused (listed (column a ∷ item.CountRows ∷ [])) None ≡ Some MixedItems
without_groups = refl

with_groups : refused (listed (column a ∷ item.CountRows ∷ [])) (Some a) ≡ None
with_groups = refl
