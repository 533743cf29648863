-- The least or the greatest of some codes, by the distance of each from the wanted end.
use Rattle.std.specs.Prelude.{Bool, false, not, true, ℕ, ◌&&◌, ◌-◌, ◌<◌, ◌==◌, ◌≡◌, ◌≤◌}
use Rattle.bw_aggregate.specs.Marks.{marked}
use Rattle.bw_aggregate.specs.declared.end.Distances.{Distances}
use Rattle.bw_aggregate.specs.declared.end.End.{End}
use Rattle.bw_aggregate.specs.declared.end.End.TheVariants.{Greatest, Least}

-- the distance from 0, or from the greatest possible code
abbrev pub distance : End → ℕ → ℕ → ℕ
distance Least top code = code
distance Greatest top code = top - code

-- whether a bit of a code is a 0 bit of its distance
abbrev pub is_near : End → Bool → Bool
is_near Least bit = not bit
is_near Greatest bit = bit

-- of the first n rows, no selected one is nearer than `nearest`, which is at most `before`; if it is less, one of them is at that
-- distance
pub record IsNearest (n : ℕ) (is_in : ℕ → Bool) (code : ℕ → ℕ) (end : End) (top before nearest : ℕ) : Type 0 where
  pub upto : nearest ≤ before
  pub none : (j : ℕ) → j < n → is_in j ≡ true → nearest ≤ distance end top (code j)
  pub there : nearest < before → 0 < marked n (λ j. is_in j && (distance end top (code j) == nearest))

-- the same for both ends
pub record AreNearest (n : ℕ) (is_in : ℕ → Bool) (code : ℕ → ℕ) (top : ℕ) (before nearest : Distances) : Type 0 where
  pub least : IsNearest n is_in code Least top before.least nearest.least
  pub greatest : IsNearest n is_in code Greatest top before.greatest nearest.greatest

-- of the 256 rows of a segment, `near` has some, and the others are not nearer than the bound
pub record MayBeNearer (rows near : ℕ → Bool) (code : ℕ → ℕ) (end : End) (top bound : ℕ) : Type 0 where
  pub within : (j : ℕ) → j < 256 → near j ≡ true → rows j ≡ true
  pub out : (j : ℕ) → j < 256 → rows j ≡ true → near j ≡ false → bound ≤ distance end top (code j)
