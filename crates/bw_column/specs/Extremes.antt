-- The least and the greatest of some codes and a start value, and ends between which values lie.
use Rattle.std.specs.Prelude.{Bool, List, None, Option, Some, [], true, ℕ, ℤ, ◌<◌, ◌≡◌, ◌≤◌, ◌≤ℤ◌, ◌⊎◌}
use Rattle.std.specs.List.{All, Contains}
use Rattle.bw_code.specs.declared.ends.Ends.{Ends}

-- one of n indices that are marked has this code
abbrev pub IsReached : ℕ → (ℕ → Bool) → (ℕ → ℕ) → ℕ → Type 0
IsReached n marked code x = (i : ℕ) × (i < n) × (marked i ≡ true) × (code i ≡ x)

pub record IsLeastFrom (start n : ℕ) (marked : ℕ → Bool) (code : ℕ → ℕ) (least : ℕ) : Type 0 where
  pub from : least ≤ start
  pub bound : (i : ℕ) → i < n → marked i ≡ true → least ≤ code i
  pub reached : (least ≡ start) ⊎ IsReached n marked code least

pub record IsGreatestFrom (start n : ℕ) (marked : ℕ → Bool) (code : ℕ → ℕ) (greatest : ℕ) : Type 0 where
  pub from : start ≤ greatest
  pub bound : (i : ℕ) → i < n → marked i ≡ true → code i ≤ greatest
  pub reached : (greatest ≡ start) ⊎ IsReached n marked code greatest

-- all of the values lie between these ends; `None` only where there is no value
abbrev pub AreBounds : List ℤ → Option Ends → Type 0
AreBounds values None = values ≡ []
AreBounds values (Some ends) = All (λ x. (ends.least ≤ℤ x) × (x ≤ℤ ends.greatest)) values

-- the same for entries, stated for each entry by itself
abbrev pub AreEntryBounds : List ℤ → Option Ends → Type 0
AreEntryBounds entries None = entries ≡ []
AreEntryBounds entries (Some ends) = (x : ℤ) → Contains entries x → (ends.least ≤ℤ x) × (x ≤ℤ ends.greatest)
