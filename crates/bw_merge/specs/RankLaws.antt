-- Laws of ranks and medians: what a median is by counts, and its bounds in two lists.
use Rattle.std.specs.Prelude.{List, Some, length, slice_get, ℕ, ℤ, ◌+◌, ◌++◌, ◌-◌, ◌<◌, ◌≡◌, ◌≤ℤ◌, ◌≤◌}
use Rattle.std.specs.Int.{int_max, int_min}
use Rattle.bw_cells.specs.SetFunctions.{median, sorted}
use Rattle.bw_merge.specs.Ranks.{HasRank, IsMedian, below, inside, up_to}

-- the count of two lists is the sum of the counts of each
abbrev pub AddsUp : (List ℤ → ℕ) → Type 0
AddsUp count = (values more : List ℤ) → count (values ++ more) ≡ count values + count more

abbrev pub UpToAddsUp : Type 0
UpToAddsUp = (v : ℤ) → AddsUp (up_to v)

abbrev pub BelowAddsUp : Type 0
BelowAddsUp = (v : ℤ) → AddsUp (below v)

-- at index k, counted from 0, the sorted values have the value of rank k + 1, and no other value has this rank
abbrev pub EntriesHaveRanks : Type 0
EntriesHaveRanks = (values : List ℤ) (k : ℕ) (v : ℤ) → slice_get (sorted values) k ≡ Some v → HasRank values (k + 1) v

abbrev pub RanksHaveEntries : Type 0
RanksHaveEntries = (values : List ℤ) (k : ℕ) (v : ℤ) → HasRank values (k + 1) v → slice_get (sorted values) k ≡ Some v

abbrev pub RanksAreOfOne : Type 0
RanksAreOfOne = (values : List ℤ) (rank : ℕ) (v w : ℤ) → HasRank values rank v → HasRank values rank w → v ≡ w

-- MEDIAN is the median by counts
abbrev pub MedianIsByCounts : Type 0
MedianIsByCounts = (values : List ℤ) (v : ℤ) → median values ≡ Some v → IsMedian values v

abbrev pub CountsGiveMedian : Type 0
CountsGiveMedian = (values : List ℤ) (v : ℤ) → IsMedian values v → median values ≡ Some v

abbrev pub MedianIsOne : Type 0
MedianIsOne = (values : List ℤ) (v w : ℤ) → IsMedian values v → IsMedian values w → v ≡ w

abbrev pub MedianIsThere : Type 0
MedianIsThere = (values : List ℤ) → 0 < length values → (v : ℤ) × IsMedian values v

-- the median of two lists is between the medians of each
abbrev pub MedianIsBetween : Type 0
MedianIsBetween = (values more : List ℤ) (a b m : ℤ)
    → IsMedian values a → IsMedian more b → IsMedian (values ++ more) m → (int_min a b ≤ℤ m) × (m ≤ℤ int_max a b)

-- a range has the value of a rank if fewer values than the rank are below it, and at least as many are at most its end
abbrev pub HoldsRank : ℤ → ℤ → List ℤ → ℕ → Type 0
HoldsRank low high values rank = (below low values < rank) × (rank ≤ up_to high values)

abbrev pub RankIsHeld : Type 0
RankIsHeld = (values : List ℤ) (rank : ℕ) (v low high : ℤ)
    → HasRank values rank v → HoldsRank low high values rank → (low ≤ℤ v) × (v ≤ℤ high)

-- among the values of such a range, its rank is reduced by the number of values below the range
abbrev pub RankIsInside : Type 0
RankIsInside = (values : List ℤ) (rank : ℕ) (v low high : ℤ)
    → HasRank values rank v → HoldsRank low high values rank → HasRank (inside low high values) (rank - below low values) v
