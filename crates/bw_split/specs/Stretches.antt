-- Bytes up to the first cut, as the search finds them.
use Rattle.std.specs.Prelude.{◌≡◌, ℕ, ◌+◌, ◌-◌, ◌≤◌, Bool, true, not, ◌&&◌, ◌==◌, nat_lt, if◌then◌else◌, List, [], ◌∷◌, ◌++◌, length, take, drop, IsTrue}
use Rattle.bw_split.specs.declared.progress.Progress.{Progress}
use Rattle.bw_split.specs.declared.part_range.PartRange.{PartRange}
use Rattle.bw_split.specs.declared.stretch.Stretch.{Stretch}
use Rattle.bw_split.specs.Splitting.{Fed, closes, fed, goes_on, is_cut, progress_from, progress_of, step}

-- none of the bytes is a cut, from this progress on
abbrev pub has_no_cut : Progress → List ℕ → Bool
has_no_cut progress [] = true
has_no_cut progress (b ∷ bytes) = not (is_cut progress.state b) && has_no_cut (step progress b) bytes

-- a stretch at the start of the bytes has no cut
pub record IsStretch (progress : Progress) (bytes : List ℕ) (stretch : Stretch) : Type 0 where
  pub within : stretch.len ≤ length bytes
  pub uncut : has_no_cut progress (take stretch.len bytes) ≡ true
  pub ends : stretch.progress ≡ progress_from progress (take stretch.len bytes)

-- a cut comes next, or the end
abbrev pub StopsBefore : Progress → List ℕ → Type 0
StopsBefore progress [] = Unit {0}
StopsBefore progress (b ∷ rest) = IsTrue (is_cut progress.state b)

-- what is left of the open part before this index of the piece: nothing if a blank part was dropped before it
abbrev pub carried : ℕ → List ℕ → List ℕ
carried start part = if start == 0 then part else []

-- the part with the bytes of the piece that belong to it
abbrev pub joined : List ℕ → List ℕ → PartRange → List ℕ
joined part piece found = carried found.start part ++ take (found.end - found.start) (drop found.start piece)

-- what a piece makes of a part, given the range of the part's bytes in it
abbrev pub found_fed : List ℕ → List ℕ → PartRange → Fed
found_fed part piece found =
    if nat_lt found.end (length piece) then closes (joined part piece found) (drop (found.end + 1) piece)
    else goes_on (joined part piece found)

pub record IsFound (part piece : List ℕ) (found : PartRange) : Type 0 where
  pub fed_is : fed part piece ≡ found_fed part piece found
  pub progress : found.progress ≡ progress_of (joined part piece found)
