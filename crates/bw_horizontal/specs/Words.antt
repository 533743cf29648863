-- Codes of k bits as words of sections: unit q * (k + 1) + i is word i of segment q. A section is a code and a delimiter bit
-- above it, and a word holds as many sections as fit 64 bits, from the low end.
use Rattle.std.specs.Prelude.{Bool, List, length, min, nat_lt, slice_index, ℕ, ◌%◌, ◌&&◌, ◌*◌, ◌+◌, ◌/◌, ◌==◌, ◌^◌, ◌≡◌, ◌≤◌}
use Rattle.std.specs.List.{All}
use Rattle.bw_code.specs.Lists.{made}
use Rattle.bw_code.specs.Units.{segments_of}
use Rattle.bw_lane.specs.Sections.{IsStored, on, section_of, sections_in}
use Rattle.bw_code.specs.Widths.{widest_half}

-- how many rows a segment has
abbrev pub segment_rows : ℕ → ℕ
segment_rows k = (k + 1) * sections_in k

-- the word of row j, and its section in that word: consecutive rows of a segment lie in consecutive words, then in the next
-- section of these words
abbrev pub word_of : ℕ → ℕ → ℕ
word_of k j = j / segment_rows k * (k + 1) + j % segment_rows k % (k + 1)

abbrev pub section_in : ℕ → ℕ → ℕ
section_in k j = j % segment_rows k / (k + 1)

-- the code of row r of segment q
abbrev pub code_at : ℕ → List ℕ → ℕ → ℕ → ℕ
code_at k units q r = section_of k (r / (k + 1)) (slice_index units (q * (k + 1) + r % (k + 1)))

-- the code of row j
abbrev pub code_in : ℕ → List ℕ → ℕ → ℕ
code_in k units j = section_of k (section_in k j) (slice_index units (word_of k j))

-- the codes of n rows
abbrev pub codes_of : ℕ → ℕ → List ℕ → List ℕ
codes_of k n units = made n (code_in k units)

-- the words of a number of segments, in which delimiters and spare bits are 0
pub record AreSegments (k segments : ℕ) (units : List ℕ) : Type 0 where
  pub count : length units ≡ segments * (k + 1)
  pub stored : All (IsStored k) units

-- only delimiters are set in the word: those of the sections whose code passes
abbrev pub AreDelimiters : ℕ → (ℕ → Bool) → ℕ → ℕ → Type 0
AreDelimiters k passes word found = (p : ℕ) → on found p ≡ (p % (k + 1) == k && (nat_lt (p / (k + 1)) (sections_in k) && passes (section_of k (p / (k + 1)) word)))

-- the words of a column of n codes: those of all its segments, in which sections without a row are 0
pub record AreWords (k n : ℕ) (words : List ℕ) : Type 0 where
  pub some : 1 ≤ k
  pub narrow : k ≤ widest_half
  pub few : n ≤ 2 ^ 24
  pub segments : AreSegments k (segments_of (segment_rows k) n) words
  pub clean : (j : ℕ) → n ≤ j → code_in k words j ≡ 0

-- how many rows a number of words has room for: whole segments, and at most 2^24 rows
abbrev pub room_in : ℕ → ℕ → ℕ
room_in k words = min (2 ^ 24) (segment_rows k * (words / (k + 1)))

-- the row to whose code bit p of word w belongs
abbrev pub row_of_bit : ℕ → ℕ → ℕ → ℕ
row_of_bit k w p = segment_rows k * (w / (k + 1)) + (p / (k + 1) * (k + 1) + w % (k + 1))
