-- Values written to the set places of a mask, in order.
use Rattle.std.specs.Prelude.{List, Option, count_by, if◌then◌else◌, length, map, take, ℕ, ℤ, ◌+◌, ◌-◌, ◌<◌, ◌≡◌, ◌≤◌}
use Rattle.std.specs.List.{filter, range_with_len}
use Rattle.bw_mask.specs.Masks.{MaskRows, len, row_at}
use Rattle.bw_code.specs.Columns.{is_chosen}
use Rattle.bw_code.specs.Lists.{made}
use Rattle.bw_column.specs.Values.{value_at}

-- the set places below n, in order
abbrev pub set_below : MaskRows → ℕ → List ℕ
set_below places n = filter (row_at places) (range_with_len 0 n)

-- the values at the set places, in order
abbrev pub chosen_values : MaskRows → List (Option ℤ) → List (Option ℤ)
chosen_values places values = map (value_at values) (set_below places (len places))

-- how many places below i are set
abbrev pub rank : MaskRows → ℕ → ℕ
rank places i = count_by (λ row. row) (take i places.rows)

-- the n-th set place has the n-th value, and any other place keeps its old value
abbrev pub put_at : MaskRows → List (Option ℤ) → List (Option ℤ) → ℕ → Option ℤ
put_at places values old i = if row_at places i then value_at values (rank places i) else value_at old i

abbrev pub overwritten : MaskRows → List (Option ℤ) → List (Option ℤ) → List (Option ℤ)
overwritten places values old = made (length old) (put_at places values old)

-- the values after those of the chosen rows were replaced by this one; the others stay
abbrev pub filled_values : List (Option ℤ) → ℕ → ℕ → Option ℤ → List (Option ℤ)
filled_values old at rows value = made (length old) (λ j. if is_chosen at rows j then value else value_at old j)

-- the values after those of the chosen rows were replaced, each by the value at the index of its bit; the others stay
abbrev pub put_values : List (Option ℤ) → ℕ → ℕ → List (Option ℤ) → List (Option ℤ)
put_values old at rows values = made (length old) (λ j. if is_chosen at rows j then value_at values (j - at) else value_at old j)

-- the set places among the n places from `start` on have their new values, and every other row keeps its own
pub record ArePutFrom (places : MaskRows) (values : List (Option ℤ)) (start n : ℕ) (new old : List (Option ℤ)) : Type 0 where
  pub count : length new ≡ length old
  pub inside : (k : ℕ) → start ≤ k → k < start + n → value_at new k ≡ put_at places values old k
  pub outside : (k : ℕ) → (start ≤ k → start + n ≤ k) → value_at new k ≡ value_at old k
