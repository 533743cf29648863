-- A plane has one bit of each row's code.
use Rattle.std.specs.Prelude.{Bool, List, [], if◌then◌else◌, not, slice_index, slice_index_or, length, ℕ, ◌%◌, ◌*◌, ◌+◌, ◌-◌, ◌/◌, ◌<◌, ◌≡◌}
use Rattle.bw_mask.specs.Masks.{bit_of, row_in}
use Rattle.bw_code.specs.Columns.{CodeList, code_at, count}
use Rattle.bw_code.specs.Units.{segments_of}
use Rattle.bw_aggregate.specs.declared.plane.GroupPlane.{GroupPlane}
use Rattle.bw_aggregate.specs.declared.plane.Plane.{Plane}
use Rattle.bw_aggregate.specs.declared.plane.Plane.TheVariants.{Copied, InPlace}

-- whether a row is in the plane
abbrev pub is_in : Plane → ℕ → Bool
is_in (InPlace plane) r = row_in (slice_index_or plane.group.now (r / 256 * plane.count + plane.at) []) (r % 256)
is_in (Copied words) r = row_in words.now r

-- the plane has bit i of each code
abbrev pub IsPlane : List ℕ → ℕ → Plane → Type 0
IsPlane codes i plane = (r : ℕ) → is_in plane r ≡ bit_of (slice_index codes r) i

-- whether bit i of a code has this value
abbrev pub has_bit : ℕ → Bool → ℕ → Bool
has_bit i bit code = if bit then bit_of code i else not (bit_of code i)

-- plane i of a column's codes, counted from the highest, among those of its group
pub record IsGroupPlane (codes : CodeList) (i : ℕ) (plane : GroupPlane) : Type 0 where
  pub long : length plane.group.now ≡ segments_of 256 (count codes) * plane.count
  pub inside : plane.at < plane.count
  pub rows : (q j : ℕ) → j < 256 → row_in (slice_index_or plane.group.now (q * plane.count + plane.at) []) j ≡ bit_of (code_at codes (256 * q + j)) (codes.width - 1 - i)
