-- The set functions of the values of each group.
use Rattle.std.specs.Prelude.{Bool, List, None, Option, Some, if◌then◌else◌, length, map, not, pos, slice_index, slice_index_or, unsigned_abs, ℕ, ℤ, ◌&&◌, ◌<◌, ◌==◌, ◌^◌, ◌≡◌, ◌≤◌}
use Rattle.std.specs.List.{range_with_len}
use Rattle.bw_aggregate.specs.declared.summary.Asked.{Asked}
use Rattle.bw_aggregate.specs.declared.summary.Summary.{Summary}
use Rattle.bw_cells.specs.SetFunctions.{known, total}
use Rattle.bw_code.specs.declared.ends.Ends.{Ends}
use Rattle.bw_groups.specs.Grouping.{members}
use Rattle.bw_groups.specs.declared.sums.Sums.{Sums}
use Rattle.bw_groups.specs.declared.sums.Sums.TheVariants.{Narrow, Wide}

-- each fold is that of the non-null values in its group
abbrev pub AreFolds : {F : Type 0} → (F → List ℤ → Type 0) → List ℕ → List (Option ℤ) → List F → Type 0
AreFolds {F} tells ranks column folds = (g : ℕ) (d : F) → g < length folds → tells (slice_index_or folds g d) (known (members ranks column g))

-- it is the number of the values
abbrev pub IsCount : ℕ → List ℤ → Type 0
IsCount count values = count ≡ length values

-- a value is at most 2^38 from 0
abbrev pub IsSmall : ℤ → Type 0
IsSmall x = unsigned_abs x ≤ 2 ^ 38

-- it is the sum of the values
abbrev pub IsSum : ℤ → List ℤ → Type 0
IsSum sum values = sum ≡ total values

-- the sums of the groups, in 64 bits or in 128
abbrev pub sums_in : Sums → List ℤ
sums_in (Narrow sums) = sums.items
sums_in (Wide sums) = sums.items

-- a result for this number of values, if it is asked for and there are any
abbrev pub if_any : {A : Type 0} → Bool → ℕ → A → Option A
if_any asked count x = if asked && not (count == 0) then Some x else None

abbrev pub least_in : Option Ends → Option ℤ
least_in None = None
least_in (Some ends) = Some ends.least

abbrev pub greatest_in : Option Ends → Option ℤ
greatest_in None = None
greatest_in (Some ends) = Some ends.greatest

-- the summary of values: their number, and their sum, ends and lower median as far as they are asked for
abbrev pub summary_by : Asked → ℕ → ℤ → Option Ends → ℤ → Summary
summary_by asked count sum ends median = record {
  count = count;
  sum = if_any asked.sum count sum;
  least = if asked.least then least_in ends else None;
  greatest = if asked.greatest then greatest_in ends else None;
  median = if_any asked.median count median;
}

-- the same for each group, from its entries in these lists; a list that isn't asked for may be empty
abbrev pub summary_at : Asked → List ℕ → List ℤ → List (Option Ends) → List ℤ → ℕ → Summary
summary_at asked counts sums ends medians g = summary_by asked (slice_index counts g) (slice_index_or sums g (pos 0)) (slice_index_or ends g None) (slice_index_or medians g (pos 0))

abbrev pub summaries : Asked → List ℕ → List ℤ → List (Option Ends) → List ℤ → List Summary
summaries asked counts sums ends medians = map (summary_at asked counts sums ends medians) (range_with_len 0 (length counts))
