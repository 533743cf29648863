-- The word whose bits are all set.
use Rattle.std.proofs.Common.{ap, true, ℕ, ◌-◌, ◌<◌, ◌==◌, ◌^◌, ◌≡◌}
use Rattle.std.proofs.lemmas.Nat.Bits.{bit_at_ones}
use Rattle.bw_mask.specs.Masks.{bit_of}

pub full : (k : ℕ) → k < 64 → bit_of (2 ^ 64 - 1) k ≡ true
full k h = ap (λ x. x == 1) (bit_at_ones 64 k h)
