-- The least and the greatest of some codes, one for each row, and the rows that have them.
use Rattle.std.specs.Prelude.{Bool, false, true, ℕ, ◌-◌, ◌<◌, ◌^◌, ◌≡◌, ◌≤◌, ◌⊎◌}
use Rattle.bw_mask.specs.Masks.{row_in}
use Rattle.bw_vertical.specs.declared.code_ends.CodeEnds.{CodeEnds}
use Rattle.bw_vertical.specs.declared.descent.Reached.{Reached}

-- the ends of the codes of those of the first n rows that have one: whether there is any, the least and the greatest
pub record AreCodeEnds (has : ℕ → Bool) (code : ℕ → ℕ) (n : ℕ) (ends : CodeEnds) : Type 0 where
  pub bounds : (i : ℕ) → i < n → has i ≡ true → (ends.any ≡ true) × (ends.least ≤ code i) × (code i ≤ ends.greatest)
  pub least : ends.any ≡ true → (i : ℕ) × (i < n) × (has i ≡ true) × (code i ≡ ends.least)
  pub greatest : ends.any ≡ true → (i : ℕ) × (i < n) × (has i ≡ true) × (code i ≡ ends.greatest)

-- the same for a search that goes on: as long as there is no code, any is as little as the one end and as great as the other
pub record AreEndsSoFar (has : ℕ → Bool) (code : ℕ → ℕ) (n : ℕ) (ends : CodeEnds) : Type 0 where
  pub found : AreCodeEnds has code n ends
  pub none : ends.any ≡ false → (ends.least ≡ 2 ^ 64 - 1) × (ends.greatest ≡ 0)

-- of 256 rows, the least of the codes of those that have one; the lanes tell all rows that have this least code
pub record IsLeastSoFar (has : ℕ → Bool) (code : ℕ → ℕ) (reached : Reached) : Type 0 where
  pub bound : (r : ℕ) → r < 256 → has r ≡ true → reached.number ≤ code r
  pub each : (r : ℕ) → r < 256 → row_in reached.rows r ≡ true → (has r ≡ true) × (code r ≡ reached.number)
  pub all : (r : ℕ) → r < 256 → has r ≡ true → code r ≡ reached.number → row_in reached.rows r ≡ true
  pub some : (r : ℕ) × (r < 256) × (row_in reached.rows r ≡ true)

-- the same for the greatest
pub record IsGreatestSoFar (has : ℕ → Bool) (code : ℕ → ℕ) (reached : Reached) : Type 0 where
  pub bound : (r : ℕ) → r < 256 → has r ≡ true → code r ≤ reached.number
  pub each : (r : ℕ) → r < 256 → row_in reached.rows r ≡ true → (has r ≡ true) × (code r ≡ reached.number)
  pub all : (r : ℕ) → r < 256 → has r ≡ true → code r ≡ reached.number → row_in reached.rows r ≡ true
  pub some : (r : ℕ) × (r < 256) × (row_in reached.rows r ≡ true)

-- the least of a number and of the codes of those of 256 rows that have one
pub record IsLeastWith (has : ℕ → Bool) (code : ℕ → ℕ) (best least : ℕ) : Type 0 where
  pub most : least ≤ best
  pub bound : (r : ℕ) → r < 256 → has r ≡ true → least ≤ code r
  pub reached : (least ≡ best) ⊎ ((r : ℕ) × (r < 256) × (has r ≡ true) × (code r ≡ least))

-- the same for the greatest
pub record IsGreatestWith (has : ℕ → Bool) (code : ℕ → ℕ) (best greatest : ℕ) : Type 0 where
  pub least : best ≤ greatest
  pub bound : (r : ℕ) → r < 256 → has r ≡ true → code r ≤ greatest
  pub reached : (greatest ≡ best) ⊎ ((r : ℕ) × (r < 256) × (has r ≡ true) × (code r ≡ greatest))
