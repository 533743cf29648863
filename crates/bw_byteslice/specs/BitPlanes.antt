-- Bit planes extracted from slices. A segment of planes is 256 rows. With codes of k bits, unit q * k + i is plane i of segment
-- q: bit k - 1 - i of each code, which lies in slice i / 8 at bit 7 - i % 8.
use Rattle.std.specs.Prelude.{Bool, List, slice_index, ℕ, ◌%◌, ◌*◌, ◌+◌, ◌-◌, ◌/◌, ◌≡◌}
use Rattle.std.specs.Simd.Lanes.{mask_l}
use Rattle.bw_mask.specs.Masks.{bit_of}
use Rattle.bw_code.specs.Lists.{made}
use Rattle.bw_code.specs.Units.{segments_of}
use Rattle.bw_byteslice.specs.Storing.{AreSlices, byte_of}

-- a word of n rows, by the result of a test for each
unfoldable pub word_of : ℕ → (ℕ → Bool) → ℕ
word_of n test = mask_l (made n test)

-- 256 rows as n words of 64
unfoldable pub words_of : ℕ → (ℕ → Bool) → List ℕ
words_of n test = made n (λ w. word_of 64 (λ r. test (64 * w + r)))

-- bit i of the bytes of segment q of a slice; rows past its end are not set
abbrev pub plane_in : List ℕ → ℕ → ℕ → List ℕ
plane_in slice q i = words_of 4 (λ r. bit_of (slice_index slice (256 * q + r)) i)

-- the planes of n codes of k bits
abbrev pub planes_of : ℕ → ℕ → List (List ℕ) → List (List ℕ)
planes_of k n slices = made (segments_of 256 n * k) (λ u. words_of 4 (λ r. bit_of (byte_of slices (256 * (u / k) + r) (u % k / 8)) (7 - u % k % 8)))

-- the slices of n codes, and the first unit of a segment of their planes
pub record ArePlanes (k n : ℕ) (slices : List (List ℕ)) (segment start : ℕ) : Type 0 where
  pub stored : AreSlices k n slices
  pub place : start ≡ segment * k
