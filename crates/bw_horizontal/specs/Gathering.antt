-- Rows that are appended to a mask; those of a word that is not full yet are kept back.
use Rattle.std.specs.Prelude.{Bool, false, ℕ, ◌%◌, ◌*◌, ◌+◌, ◌/◌, ◌<◌, ◌≡◌, ◌≤◌}
use Rattle.bw_mask.specs.Masks.{bit_of, len, MaskRows, row_at}

-- the first `at` rows are as wanted: those of full words are in the mask, and the rows after them in `rest`
pub record AreGathered (mask : MaskRows) (at rest : ℕ) (wanted : ℕ → Bool) : Type 0 where
  pub full : (j : ℕ) → j < at / 64 * 64 → j < len mask → row_at mask j ≡ wanted j
  pub begun : (i : ℕ) → i < at % 64 → bit_of rest i ≡ wanted (at / 64 * 64 + i)
  pub clean : (i : ℕ) → at % 64 ≤ i → bit_of rest i ≡ false
