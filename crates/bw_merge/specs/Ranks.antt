-- Which value of a list has a rank, defined only by counts of values, which add up over lists.
use Rattle.std.specs.Prelude.{List, int_le, int_lt, length, ℕ, ℤ, ◌&&◌, ◌+◌, ◌/◌, ◌<◌, ◌<ℤ◌, ◌≤◌}
use Rattle.std.specs.List.{Contains, count_by, filter}

-- the number of values that are at most v
abbrev pub up_to : ℤ → List ℤ → ℕ
up_to v values = count_by (λ x. int_le x v) values

-- the number of values that are less than v
abbrev pub below : ℤ → List ℤ → ℕ
below v values = count_by (λ x. int_lt x v) values

-- the values from low to high
abbrev pub inside : ℤ → ℤ → List ℤ → List ℤ
inside low high values = filter (λ x. int_le low x && int_le x high) values

-- v is the least of the values for which at least `rank` of them are at most v
pub record HasRank (values : List ℤ) (rank : ℕ) (v : ℤ) : Type 0 where
  pub there : Contains values v
  pub reached : rank ≤ up_to v values
  pub least : (u : ℤ) → u <ℤ v → up_to u values < rank

-- at least half of the values, rounded up, are at most v, and fewer of them are at most any smaller number
abbrev pub IsMedian : List ℤ → ℤ → Type 0
IsMedian values v = HasRank values ((length values + 1) / 2) v
