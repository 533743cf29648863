-- The least and the greatest of some codes, one for each row, and the rows that have them: one bit for each, eight to a byte.
use Rattle.std.specs.Prelude.{Bool, List, slice_index, true, ℕ, ◌%◌, ◌/◌, ◌≡◌, ◌≤◌}
use Rattle.bw_mask.specs.Masks.{bit_of}

-- the bit of row r
abbrev pub bit_at_row : List ℕ → ℕ → Bool
bit_at_row bytes r = bit_of (slice_index bytes (r / 8)) (r % 8)

-- the least of the codes of the rows that have one; the bits tell all rows that have this least code
pub record IsLeastSoFar (has : ℕ → Bool) (code : ℕ → ℕ) (number : ℕ) (rows : List ℕ) : Type 0 where
  pub bound : (r : ℕ) → has r ≡ true → number ≤ code r
  pub each : (r : ℕ) → bit_at_row rows r ≡ true → (has r ≡ true) × (code r ≡ number)
  pub all : (r : ℕ) → has r ≡ true → code r ≡ number → bit_at_row rows r ≡ true
  pub some : (r : ℕ) × (bit_at_row rows r ≡ true)

-- the same for the greatest
pub record IsGreatestSoFar (has : ℕ → Bool) (code : ℕ → ℕ) (number : ℕ) (rows : List ℕ) : Type 0 where
  pub bound : (r : ℕ) → has r ≡ true → code r ≤ number
  pub each : (r : ℕ) → bit_at_row rows r ≡ true → (has r ≡ true) × (code r ≡ number)
  pub all : (r : ℕ) → has r ≡ true → code r ≡ number → bit_at_row rows r ≡ true
  pub some : (r : ℕ) × (bit_at_row rows r ≡ true)
