-- Groups of rows by the value of a column (SQL-92, group by clause): as few as there can be, such that within each all values are
-- the same. Two values are the same where they are equal, or both null.
use Rattle.std.specs.Prelude.{ℕ, Bool, true, false, List, [], ◌∷◌, ◌++◌, Option, Some, None, is_none, map, if◌then◌else◌}
use Rattle.std.specs.List.{dedup, filter, list_any}
use Rattle.std.specs.Ordering.{int_eq}
use Rattle.bw_cells.specs.SetFunctions.{known, sorted}
use Rattle.bw_model.specs.Store.{Row, Value, value_from}

pub record Group : Type 0 where
  pub value : Value
  pub rows : List Row

abbrev pub is_same : Value → Value → Bool
is_same None None = true
is_same (Some x) (Some y) = int_eq x y
is_same _ _ = false

-- null, if one of the values is null
abbrev pub null_of : List Value → List Value
null_of values = if list_any is_none values then None ∷ [] else []

-- the distinct values, in ascending order, with null last
abbrev pub group_values : List Value → List Value
group_values values = map Some (dedup int_eq (sorted (known values))) ++ null_of values

-- the rows that have this value
abbrev pub rows_having : Option ℕ → Value → List Row → List Row
rows_having place value rows = filter (λ row. is_same (value_from row place) value) rows

-- the groups of rows by the values of a column
abbrev pub groups_by : Option ℕ → List Row → List Group
groups_by place rows = map (λ value. record { value = value; rows = rows_having place value rows }) (group_values (map (λ row. value_from row place) rows))
