-- Exchanging bits of two words.
use Rattle.std.specs.Prelude.{not, true, ℕ, ◌-◌, ◌<◌, ◌≡◌, ◌≤◌}
use Rattle.bw_mask.specs.Masks.{bit_of}

-- the mask selects the bits that have a partner s positions higher, and leaves out those that have one s positions lower
pub record Exchanges (s mask : ℕ) : Type 0 where
  pub small : s < 64
  pub first : (r : ℕ) → r < s → bit_of mask r ≡ true
  pub apart : (r : ℕ) → s ≤ r → r < 64 → bit_of mask r ≡ not (bit_of mask (r - s))
