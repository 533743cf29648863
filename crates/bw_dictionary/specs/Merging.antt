-- Two ascending lists merged, of each only the entries in use.
use Rattle.std.specs.Prelude.{Bool, Contains, List, Option, Some, false, length, pos, slice_index, slice_index_or, true, ℕ, ℤ, ◌+◌, ◌<ℤ◌, ◌<◌, ◌↔◌, ◌⊎◌, ◌≡◌, ◌≤◌}
use Rattle.bw_code.specs.Ascending.{IsAscending}
use Rattle.bw_code.specs.Encodings.{entry_code}
use Rattle.bw_dictionary.specs.declared.merging.Turn.{Turn}
use Rattle.bw_dictionary.specs.declared.merging.Turn.TheVariants.{Both, New, Old, SkipNew, SkipOld}

-- the entry at this index is in use
abbrev pub StandsAt : List Bool → ℕ → Type 0
StandsAt stands m = slice_index_or stands m false ≡ true

-- an integer is one of those in use
abbrev pub StandsIn : List ℤ → List Bool → ℤ → Type 0
StandsIn entries stands x = (m : ℕ) × (m < length entries) × StandsAt stands m × (slice_index_or entries m (pos 0) ≡ x)

-- the codes of the entries in use, each at the entry's index
pub record AreStandingCodes (code_for : ℤ → Option ℕ) (entries : List ℤ) (stands : List Bool) (codes : List ℕ) : Type 0 where
  pub count : length codes ≡ length entries
  pub each : (m : ℕ) → m < length entries → StandsAt stands m → code_for (slice_index_or entries m (pos 0)) ≡ Some (slice_index codes m)

-- the next old entry is in use and comes before the next new one
abbrev pub IsOldNext : List ℤ → List Bool → List ℤ → ℕ → ℕ → Type 0
IsOldNext old stands new i j = (i < length old) × StandsAt stands i × (j < length new → slice_index_or old i (pos 0) <ℤ slice_index_or new j (pos 0))

-- which list the next entry comes from, or which list has one next that is not in use
abbrev pub IsTurn : List ℤ → List Bool → List ℤ → List Bool → ℕ → ℕ → Turn → Type 0
IsTurn old old_stands new new_stands i j SkipOld = (i < length old) × (slice_index_or old_stands i false ≡ false)
IsTurn old old_stands new new_stands i j SkipNew = (j < length new) × (slice_index_or new_stands j false ≡ false)
IsTurn old old_stands new new_stands i j Old = IsOldNext old old_stands new i j
IsTurn old old_stands new new_stands i j New = (j < length new) × StandsAt new_stands j × (i < length old → slice_index_or new j (pos 0) <ℤ slice_index_or old i (pos 0))
IsTurn old old_stands new new_stands i j Both = (i < length old) × (j < length new) × StandsAt old_stands i × StandsAt new_stands j × (slice_index_or old i (pos 0) ≡ slice_index_or new j (pos 0))

-- each entry of a union is below those of a list from an index on
abbrev pub IsUnder : List ℤ → ℕ → List ℤ → Type 0
IsUnder xs from union = (k n : ℕ) → k < length union → from ≤ n → n < length xs → slice_index_or union k (pos 0) <ℤ slice_index_or xs n (pos 0)

-- an entry is one of the first n of a list that are in use
abbrev pub IsOneOf : List ℤ → List Bool → ℕ → ℤ → Type 0
IsOneOf xs stands n x = (m : ℕ) × (m < n) × StandsAt stands m × (slice_index_or xs m (pos 0) ≡ x)

-- the table has the index in a union of each of the first n entries of a list that are in use
pub record ArePlaced (xs : List ℤ) (stands : List Bool) (n : ℕ) (union : List ℤ) (table : List ℕ) : Type 0 where
  pub count : length table ≡ n
  pub each : (m : ℕ) → m < n → StandsAt stands m → (slice_index table m < length union) × (slice_index_or union (slice_index table m) (pos 0) ≡ slice_index_or xs m (pos 0))

-- the first i old ones and the first j new ones were merged
pub record Merging (old : List ℤ) (old_stands : List Bool) (new : List ℤ) (new_stands : List Bool) (i j : ℕ) (union : List ℤ) (moves places : List ℕ) : Type 0 where
  pub ascending : IsAscending union
  pub under_old : IsUnder old i union
  pub under_new : IsUnder new j union
  pub from : (k : ℕ) → k < length union → (IsOneOf old old_stands i (slice_index_or union k (pos 0)) ⊎ IsOneOf new new_stands j (slice_index_or union k (pos 0)))
  pub few : length union ≤ i + j
  pub moved : ArePlaced old old_stands i union moves
  pub placed : ArePlaced new new_stands j union places

-- the union ascends and has exactly the entries in use; the index there of each of them is given
pub record IsUnion (old : List ℤ) (old_stands : List Bool) (new : List ℤ) (new_stands : List Bool) (union : List ℤ) (moves places : List ℕ) : Type 0 where
  pub ascending : IsAscending union
  pub members : (x : ℤ) → (Contains union x ↔ (StandsIn old old_stands x ⊎ StandsIn new new_stands x))
  pub moved : AreStandingCodes (entry_code union) old old_stands moves
  pub placed : AreStandingCodes (entry_code union) new new_stands places
