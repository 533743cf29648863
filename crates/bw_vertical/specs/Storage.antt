-- How a column of codes lies in memory. Group g holds planes 4g to 4g + 3, as far as they exist; in it the planes of segment 0
-- come first, then those of segment 1, and so on. A plane of a segment is four words of 64 rows.
use Rattle.std.specs.Prelude.{Bool, List, [], bit_and, bit_or, false, length, map, min, slice_index, slice_index_or, suc, zero, ℕ, ◌%◌, ◌*◌, ◌+◌, ◌-◌, ◌/◌, ◌<◌, ◌^◌, ◌≡◌, ◌≤◌}
use Rattle.std.specs.Prelude.{vec_capacity}
use Rattle.std.specs.Global.{Vec}
use Rattle.std.specs.Simd.Lanes.{mask_l}
use Rattle.bw_mask.specs.Masks.{bit_of, rows_of}
use Rattle.bw_code.specs.Lists.{made}
use Rattle.bw_code.specs.Units.{segments_of}
use Rattle.bw_code.specs.Widths.{widest_code}

-- how many groups k planes take, and how many planes group g has
abbrev pub groups_of : ℕ → ℕ
groups_of k = (k + 3) / 4

abbrev pub planes_in : ℕ → ℕ → ℕ
planes_in k g = min 4 (k - 4 * g)

-- plane i of segment q
abbrev pub plane_at : ℕ → List (List (List ℕ)) → ℕ → ℕ → List ℕ
plane_at k groups q i = slice_index_or (slice_index_or groups (i / 4) []) (q * planes_in k (i / 4) + i % 4) []

-- word w of plane i: rows 64w to 64w + 63
abbrev pub word_of : ℕ → List (List (List ℕ)) → ℕ → ℕ → ℕ
word_of k groups i w = slice_index (plane_at k groups (w / 4) i) (w % 4)

-- whether row j of plane i is set
abbrev pub is_set : ℕ → List (List (List ℕ)) → ℕ → ℕ → Bool
is_set k groups i j = bit_of (word_of k groups i (j / 64)) (j % 64)

-- the code of row j: its bit i is row j of plane k - 1 - i
abbrev pub code_of : ℕ → List (List (List ℕ)) → ℕ → ℕ
code_of k groups j = mask_l (rows_of k (λ i. is_set k groups (k - 1 - i) j))

-- each group holds its planes of segment q
abbrev pub HasSegment : ℕ → List (List (List ℕ)) → ℕ → Type 0
HasSegment k groups q = (g : ℕ) → 4 * g < k → (q + 1) * planes_in k g ≤ length (slice_index_or groups g [])

-- the planes of n codes of k bits: whole segments, where bits past the last row are 0
pub record AreGroups (k : ℕ) (groups : List (List (List ℕ))) (n : ℕ) : Type 0 where
  pub some : 1 ≤ k
  pub narrow : k ≤ widest_code
  pub few : n ≤ 2 ^ 24
  pub count : length groups ≡ groups_of k
  pub sizes : (g : ℕ) → 4 * g < k → length (slice_index_or groups g []) ≡ segments_of 256 n * planes_in k g
  pub clean : (i j : ℕ) → i < k → n ≤ j → is_set k groups i j ≡ false

-- what the vectors hold, and how many planes each has capacity for
abbrev pub lists : List (Vec (List ℕ)) → List (List (List ℕ))
lists groups = map (λ group. group.items) groups

abbrev pub capacities : List (Vec (List ℕ)) → List ℕ
capacities groups = map (λ group. vec_capacity group) groups

-- the least value at an index below n, but at most `most`
unfoldable pub least_below : ℕ → ℕ → (ℕ → ℕ) → ℕ
least_below most zero value = most
least_below most (suc n) value = min (least_below most n value) (value n)

-- how many rows fit: whole segments for which every group has capacity, but at most 65,536 segments
abbrev pub room_of : ℕ → List ℕ → ℕ
room_of k capacities = 256 * least_below 65536 (groups_of k) (λ g. slice_index capacities g / planes_in k g)

-- the same number of groups, each as long as before, with no less capacity
pub record KeepsSizes (new old : List (Vec (List ℕ))) : Type 0 where
  pub count : length new ≡ length old
  pub sizes : (g : ℕ) → length (slice_index_or (lists new) g []) ≡ length (slice_index_or (lists old) g [])
  pub capacities : (g : ℕ) → slice_index (capacities old) g ≤ slice_index (capacities new) g

-- the chosen rows of a word become those of another
abbrev pub blended : ℕ → ℕ → ℕ → ℕ
blended rows new old = bit_or (bit_and old (2 ^ 64 - 1 - rows)) (bit_and new rows)

-- the first n codes
abbrev pub codes_of : ℕ → List (List (List ℕ)) → ℕ → List ℕ
codes_of k groups n = made n (code_of k groups)

-- the planes as units of a scan
abbrev pub units_of : ℕ → List (List (List ℕ)) → ℕ → List (List ℕ)
units_of k groups n = made (segments_of 256 n * k) (λ u. plane_at k groups (u / k) (u % k))

-- these are units first, first + 1, ..
abbrev pub HoldsUnits : ℕ → List (List (List ℕ)) → List (List ℕ) → ℕ → Type 0
HoldsUnits k groups run first = (i : ℕ) → i < length run → slice_index_or run i [] ≡ plane_at k groups ((first + i) / k) ((first + i) % k)

-- the remaining groups: those of all planes but the first k - left, which fill whole groups
pub record LieAhead (k : ℕ) (groups behind : List (Vec (List ℕ))) (left : ℕ) : Type 0 where
  pub whole : 4 * ((k - left) / 4) ≡ k - left
  pub count : (k - left) / 4 + length behind ≡ length groups
  pub same : (g : ℕ) → g < length behind → (d : Vec (List ℕ)) → slice_index_or behind g d ≡ slice_index_or groups ((k - left) / 4 + g) d

-- a segment and its first unit, how many of its planes are in groups that were not read from yet, those groups, and the rest of
-- the group that was read from last, from a unit on
pub record Stands (k : ℕ) (groups : List (Vec (List ℕ))) (segment start left : ℕ) (behind : List (Vec (List ℕ))) (rest : List (List ℕ)) (next : ℕ) : Type 0 where
  pub start_is : start ≡ segment * k
  pub small : start < 2 ^ 62
  pub within : left ≤ k
  pub ahead : 0 < left → LieAhead k groups behind left
  pub units : HoldsUnits k (lists groups) rest next
  pub end : next + length rest + left ≡ start + k

-- the planes of n codes, and the position of their source
pub record IsInPlace (k : ℕ) (groups : List (Vec (List ℕ))) (n segment start left : ℕ) (behind : List (Vec (List ℕ))) (rest : List (List ℕ)) (next : ℕ) : Type 0 where
  pub planes : AreGroups k (lists groups) n
  pub stands : Stands k groups segment start left behind rest next
