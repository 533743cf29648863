-- The number of marked indexes below a bound.
use Rattle.std.specs.Prelude.{Bool, count_by, ℕ}
use Rattle.bw_mask.specs.Masks.{rows_of}

unfoldable pub marked : ℕ → (ℕ → Bool) → ℕ
marked n test = count_by (λ row. row) (rows_of n test)
