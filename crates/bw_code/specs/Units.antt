-- How many units of storage a scan reads: closed formulas over the codes and the needed rows. Where scans stop is as in
-- BitWeaving (Li and Patel, SIGMOD 2013) and ByteSlice (Feng and others, SIGMOD 2015).
use Rattle.std.specs.Prelude.{Bool, List, false, if◌then◌else◌, length, max, min, slice_index, suc, zero, ℕ, ◌%◌, ◌*◌, ◌+◌, ◌-◌, ◌/◌, ◌==◌, ◌^◌, ◌||◌}
use Rattle.std.specs.Int.{div_ceil}
use Rattle.bw_code.specs.declared.compare.CodeTest.{CodeTest}
use Rattle.bw_code.specs.declared.compare.CodeTest.TheVariants.{None, All, Cmp, Range}
use Rattle.bw_code.specs.declared.kind.Layout.{Layout}
use Rattle.bw_code.specs.declared.kind.Layout.TheVariants.{P, V, H, S}

-- whether a test holds at an index below n
unfoldable pub some_below : ℕ → (ℕ → Bool) → Bool
some_below zero test = false
some_below (suc n) test = some_below n test || test n

-- the greatest value at an index below n; 0 where n is 0
unfoldable pub greatest_below : ℕ → (ℕ → ℕ) → ℕ
greatest_below zero value = 0
greatest_below (suc n) value = max (greatest_below n value) (value n)

-- the sum of the values at the indices below n
unfoldable pub sum_below : ℕ → (ℕ → ℕ) → ℕ
sum_below zero value = 0
sum_below (suc n) value = sum_below n value + value n

-- at how many indices below n a test holds
abbrev pub count_below : ℕ → (ℕ → Bool) → ℕ
count_below n test = sum_below n (λ i. if test i then 1 else 0)

-- for how many leading indices, of those below n, a test holds before it first fails
unfoldable pub leading : ℕ → (ℕ → Bool) → ℕ
leading zero test = 0
leading (suc n) test = if test 0 then suc (leading n (λ i. test (suc i))) else 0

-- digit i of a number of m digits, the highest digit first: bits to base 2, bytes to base 256
abbrev pub digit : ℕ → ℕ → ℕ → ℕ → ℕ
digit base m x i = x / base ^ (m - 1 - i) % base

-- the agreement of two numbers of m digits: how many leading digits they share
abbrev pub agreement : ℕ → ℕ → ℕ → ℕ → ℕ
agreement base m x y = leading m (λ i. digit base m x i == digit base m y i)

-- the number of segments of a given size that n rows take
abbrev pub segments_of : ℕ → ℕ → ℕ
segments_of rows n = div_ceil n rows

-- how a layout cuts a column into segments: the number of rows of one, the agreement of two codes, and the units of a segment
-- with a needed row, by its greatest agreement
pub record Segmentation : Type 0 where
  pub rows : ℕ
  pub agree : ℕ → ℕ → ℕ
  pub cost : ℕ → ℕ

-- k planes of one bit; a scan stops at the end of a group of four planes
abbrev pub by_planes : ℕ → Segmentation
by_planes k = record { rows = 256; agree = agreement 2 k; cost = λ p. min k (4 * (p / 4 + 1)) }

-- m slices of one byte, of codes shifted left until they fill whole bytes; a scan stops after any slice
abbrev pub by_slices : ℕ → ℕ → Segmentation
by_slices k m = record { rows = 32; agree = λ x y. agreement 256 m (x * 2 ^ (8 * m - k)) (y * 2 ^ (8 * m - k)); cost = λ p. min m (p + 1) }

-- k + 1 words, each with as many codes of k bits and a delimiter as fit 64 bits; a scan reads all words
abbrev pub by_words : ℕ → Segmentation
by_words k = record { rows = (k + 1) * (64 / (k + 1)); agree = λ x y. 0; cost = λ p. k + 1 }

-- each code is a segment
abbrev pub by_codes : Segmentation
by_codes = record { rows = 1; agree = λ x y. 0; cost = λ p. 1 }

abbrev pub segmentation : Layout → ℕ → Segmentation
segmentation P k = by_codes
segmentation V k = by_planes k
segmentation H k = by_words k
segmentation S k = by_slices k (div_ceil k 8)

-- the units of a segment, given which of its rows are needed and how far each agrees
abbrev pub cost_of : Segmentation → (ℕ → Bool) → (ℕ → ℕ) → ℕ
cost_of cut needed agreed = if some_below cut.rows needed then cut.cost (greatest_below cut.rows (λ j. if needed j then agreed j else 0)) else 0

-- the units of a segment, by its own rows and their codes
abbrev pub segment_units : Segmentation → CodeTest → (ℕ → Bool) → (ℕ → ℕ) → ℕ
segment_units cut None needed code = 0
segment_units cut All needed code = 0
segment_units cut (Cmp op constant) needed code = cost_of cut needed (λ j. cut.agree (code j) constant)
segment_units cut (Range low high) needed code = cost_of cut needed (λ j. max (cut.agree (code j) low) (cut.agree (code j) high))

-- the units of a scan of all segments, by the needed rows and the codes
abbrev pub scan_units : Segmentation → CodeTest → (ℕ → Bool) → (ℕ → ℕ) → ℕ → ℕ
scan_units cut test needed code segments = sum_below segments (λ q. segment_units cut test (λ j. needed (cut.rows * q + j)) (λ j. code (cut.rows * q + j)))

-- the units that a scan of two columns side by side reads of one of them
abbrev pub side_units : Segmentation → (ℕ → Bool) → (ℕ → ℕ) → (ℕ → ℕ) → ℕ → ℕ
side_units cut needed code other segments = sum_below segments (λ q.
    cost_of cut (λ j. needed (cut.rows * q + j)) (λ j. cut.agree (code (cut.rows * q + j)) (other (cut.rows * q + j))))

-- the units of such a scan: the same number for each column
abbrev pub pair_units : Segmentation → (ℕ → Bool) → (ℕ → ℕ) → (ℕ → ℕ) → ℕ → ℕ
pair_units cut needed code other segments = 2 * side_units cut needed code other segments

-- the units of one scan of a column of these codes, by its layout and its width
unfoldable pub units_of_scan : Layout → ℕ → CodeTest → (ℕ → Bool) → List ℕ → ℕ
units_of_scan layout width test needed codes =
    let cut = segmentation layout width in scan_units cut test needed (λ i. slice_index codes i) (segments_of cut.rows (length codes))

-- the units of a scan of two columns of one layout, width and length
unfoldable pub units_of_pair : Layout → ℕ → (ℕ → Bool) → List ℕ → List ℕ → ℕ
units_of_pair layout width needed codes others =
    let cut = segmentation layout width in pair_units cut needed (λ i. slice_index codes i) (λ i. slice_index others i) (segments_of cut.rows (length codes))

-- the units of comparing n rows of two columns of these widths by adding a base to each: all planes of both, 256 rows per plane
unfoldable pub units_of_addition : ℕ → ℕ → (ℕ → Bool) → ℕ → ℕ
units_of_addition width other_width needed n = if some_below n needed then (width + other_width) * segments_of 256 n else 0

-- the units of comparing n rows of two columns by fetching the needed values of both
unfoldable pub units_of_fetches : (ℕ → Bool) → ℕ → ℕ
units_of_fetches needed n = 2 * count_below n needed

-- the planes of a column as units of a source, and how many of them were read
pub record PlanesRead : Type 0 where
  pub units : List (List ℕ)
  pub reads : ℕ
