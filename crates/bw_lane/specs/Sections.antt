-- A word of sections. A section is a code of k bits and a delimiter bit above it; the lowest section is section 0.
use Rattle.std.specs.Prelude.{false, ◌≢◌, ◌≡◌, List, slice_index, ◌&&◌, ℕ, zero, suc, Bool, not, ◌+◌, ◌-◌, ◌*◌, ◌/◌, ◌%◌, ◌^◌, ◌<◌, nat_lt, nat_le, ◌==◌, if◌then◌else◌}
use Rattle.std.specs.Int.{bit_at}
use Rattle.bw_lane.specs.declared.sections.LaneOp.{LaneOp}
use Rattle.bw_lane.specs.declared.sections.LaneOp.TheVariants.{Eq, Ne, Lt, Le, Gt, Ge}

-- how many sections a word has
abbrev pub sections_in : ℕ → ℕ
sections_in k = 64 / (k + 1)

-- section t of a word, its delimiter included
abbrev pub section_of : ℕ → ℕ → ℕ → ℕ
section_of k t word = word / 2 ^ (t * (k + 1)) % 2 ^ (k + 1)

-- whether the comparison holds for two codes
abbrev pub holds : LaneOp → ℕ → ℕ → Bool
holds Eq a b = a == b
holds Ne a b = not (a == b)
holds Lt a b = nat_lt a b
holds Le a b = nat_le a b
holds Gt a b = nat_lt b a
holds Ge a b = nat_le b a

-- A word that holds only codes: each section is a code, its delimiter is 0, and no bit above the last section is set.
pub record IsStored (k word : ℕ) : Type 0 where
  pub no_spare : word < 2 ^ (sections_in k * (k + 1))
  pub codes : (t : ℕ) → t < sections_in k → section_of k t word < 2 ^ k

-- In each section the delimiter is 1 exactly where the comparison holds for the two codes, and all other bits are 0.
pub record IsCompared (op : LaneOp) (k x y out : ℕ) : Type 0 where
  pub no_spare : out < 2 ^ (sections_in k * (k + 1))
  pub delimiters : (t : ℕ) → t < sections_in k → section_of k t out ≡ (if holds op (section_of k t x) (section_of k t y) then 2 ^ k else 0)

-- the lowest bit of each of s sections
abbrev pub lowest_bits : ℕ → ℕ → ℕ
lowest_bits k zero = 0
lowest_bits k (suc s) = lowest_bits k s * 2 ^ (k + 1) + 1

-- the delimiter of each, and all bits of the codes of each
abbrev pub delimiter_bits : ℕ → ℕ → ℕ
delimiter_bits k s = lowest_bits k s * 2 ^ k

abbrev pub code_bits : ℕ → ℕ → ℕ
code_bits k s = lowest_bits k s * (2 ^ k - 1)

-- whether bit i of a word is set
abbrev pub on : ℕ → ℕ → Bool
on word i = bit_at word i == 1

-- A segment is k + 1 words. Row r lies in section r / (k + 1) of word r % (k + 1).
abbrev pub rows_in : ℕ → ℕ
rows_in k = sections_in k * (k + 1)

abbrev pub code_at : ℕ → List ℕ → ℕ → ℕ
code_at k words r = section_of k (r / (k + 1)) (slice_index words (r % (k + 1)))

-- the word has a bit for each row of the segment, which is set exactly where the comparison with c holds for the row's code
abbrev pub AreRowsWhere : LaneOp → ℕ → List ℕ → ℕ → ℕ → Type 0
AreRowsWhere op k words c rows = (r : ℕ) → on rows r ≡ (nat_lt r (rows_in k) && holds op (code_at k words r) c)

-- only delimiters are set in the word
abbrev pub HasDelimitersAlone : ℕ → ℕ → Type 0
HasDelimitersAlone k word = (p : ℕ) → p % (k + 1) ≢ k → on word p ≡ false
