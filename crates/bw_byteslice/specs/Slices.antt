-- Codes of k bits as slices of bytes. Each code is shifted left until its highest bit is the highest of a byte, and slice i holds
-- byte i of it, the highest byte first. A segment is 32 rows. With m slices, unit q * m + i is slice i of segment q.
use Rattle.std.specs.Prelude.{Bool, List, [], min, slice_index, slice_index_or, suc, zero, ℕ, ⊤, ◌%◌, ◌*◌, ◌+◌, ◌-◌, ◌/◌, ◌<◌, ◌^◌, ◌≡◌}
use Rattle.bw_code.specs.Units.{Segmentation, agreement, cost_of}
use Rattle.bw_code.specs.declared.compare.CodeTest.{CodeTest}
use Rattle.bw_code.specs.declared.compare.CodeTest.TheVariants.{None, All, Cmp, Range}

-- how many slices k bits take
abbrev pub slices_of : ℕ → ℕ
slices_of k = (k + 7) / 8

-- by how many bits a code is shifted left
abbrev pub shift_of : ℕ → ℕ
shift_of k = 8 * slices_of k - k

-- the number that n bytes make, the highest byte first
unfoldable pub number_of : ℕ → (ℕ → ℕ) → ℕ
number_of zero byte = 0
number_of (suc n) byte = number_of n byte * 256 + byte n

-- byte i of row j, by the units
abbrev pub byte_in : ℕ → List (List ℕ) → ℕ → ℕ → ℕ
byte_in m units j i = slice_index (slice_index_or units (j / 32 * m + i) []) (j % 32)

-- the number of row j: its code, shifted left
abbrev pub number_in : ℕ → List (List ℕ) → ℕ → ℕ
number_in m units j = number_of m (byte_in m units j)

-- the code of row j
abbrev pub code_in : ℕ → List (List ℕ) → ℕ → ℕ
code_in k units j = number_in (slices_of k) units j / 2 ^ shift_of k

abbrev pub AreBytes : List (List ℕ) → Type 0
AreBytes units = (u r : ℕ) → r < 32 → slice_index (slice_index_or units u []) r < 256

-- the units hold bytes, and the bits below a shifted code are 0
pub record AreStored (k : ℕ) (units : List (List ℕ)) : Type 0 where
  pub bytes : AreBytes units
  pub spare : (j : ℕ) → number_in (slices_of k) units j % 2 ^ shift_of k ≡ 0

-- how numbers of m bytes are cut into segments
abbrev pub by_bytes : ℕ → Segmentation
by_bytes m = record { rows = 32; agree = agreement 256 m; cost = λ p. min m (p + 1) }

-- the slices that a segment costs in one of two columns of numbers of m bytes, by its own rows
abbrev pub side_cost : ℕ → (ℕ → Bool) → (ℕ → ℕ) → (ℕ → ℕ) → ℕ
side_cost m needed number other = cost_of (by_bytes m) needed (λ r. agreement 256 m (number r) (other r))

-- a test of codes as one of shifted codes
abbrev pub raised : ℕ → CodeTest → CodeTest
raised s None = None
raised s All = All
raised s (Cmp op constant) = Cmp op (constant * 2 ^ s)
raised s (Range low high) = Range (low * 2 ^ s) (high * 2 ^ s)

-- the numbers in a test are below a bound
abbrev pub IsBelow : ℕ → CodeTest → Type 0
IsBelow bound None = ⊤
IsBelow bound All = ⊤
IsBelow bound (Cmp op constant) = constant < bound
IsBelow bound (Range low high) = (low < bound) × (high < bound)
