-- Rows in groups by the values of a column.
use Rattle.std.specs.Prelude.{All, List, None, Option, count_by, length, map, slice_index, slice_index_or, ℕ, ℤ, ◌<◌, ◌==◌, ◌≡◌, ◌≤◌, ◌^◌}
use Rattle.std.specs.List.{items_where_true}
use Rattle.bw_model.specs.Groups.{group_values, is_same}

-- the values of the groups in their order, and the group number of each row
pub record Grouping : Type 0 where
  pub values : List (Option ℤ)
  pub ranks : List ℕ

-- the groups of rows that have these values in a column: a row is in a group exactly if its value is the group's
pub record AreGroups (values : List (Option ℤ)) (groups : Grouping) : Type 0 where
  pub are : groups.values ≡ group_values values
  pub rows : (g : ℕ) → g < length groups.values → map (λ r. r == g) groups.ranks ≡ map (λ value. is_same value (slice_index_or groups.values g None)) values

-- a column's values in the rows of a group
abbrev pub members : {A : Type 0} → List ℕ → List A → ℕ → List A
members ranks values g = items_where_true (map (λ r. r == g) ranks) values

-- the number of rows in a group
abbrev pub rows_in : List ℕ → ℕ → ℕ
rows_in ranks g = count_by (λ r. r == g) ranks

-- each row is in one of the groups, and `times` has the number of rows of each
pub record AreCounted (ranks times : List ℕ) : Type 0 where
  pub few : length ranks ≤ 2 ^ 24
  pub inside : All (λ r. r < length times) ranks
  pub each : (g : ℕ) → g < length times → slice_index times g ≡ rows_in ranks g
