-- Sums of codes, plane by plane from the top.
use Rattle.std.specs.Prelude.{Bool, List, false, slice_index, slice_index_or, sum_by, ℕ, ◌*◌, ◌+◌, ◌<◌, ◌≡◌}
use Rattle.bw_mask.specs.Masks.{bit_of, row_in}
use Rattle.bw_aggregate.specs.Descents.{front}
use Rattle.bw_aggregate.specs.Left.{codes_between}

-- the rows of segment q
abbrev pub AreRows : List Bool → ℕ → List ℕ → Type 0
AreRows rows q part = (j : ℕ) → j < 256 → row_in part j ≡ slice_index_or rows (256 * q + j) false

-- bit i of each code of segment q
abbrev pub AreBits : List ℕ → ℕ → ℕ → List ℕ → Type 0
AreBits codes q i plane = (j : ℕ) → j < 256 → row_in plane j ≡ bit_of (slice_index codes (256 * q + j)) i

-- numbers made of a number of bits of the codes, from bit `low` on
abbrev pub AreMadeOf : List ℕ → ℕ → ℕ → List ℕ → Type 0
AreMadeOf codes low bits numbers = (r i : ℕ) → i < bits → bit_of (slice_index numbers r) i ≡ bit_of (slice_index codes r) (low + i)

-- the sum of the codes of the selected rows of segment q, without their lowest i bits
abbrev pub IsSumTo : List Bool → List ℕ → ℕ → ℕ → ℕ → Type 0
IsSumTo rows codes q i sum = sum ≡ sum_by (front i) (codes_between rows codes (256 * q) (256 * q + 256))
