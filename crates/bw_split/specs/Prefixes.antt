-- What is kept of a part.
use Rattle.std.specs.Prelude.{◌≡◌, ℕ, Bool, nat_lt, List, length, take}

-- the greatest number of bytes of a part that are kept
abbrev pub longest_part : ℕ
longest_part = 65536

-- the kept bytes, and whether the part has more
pub record Prefix : Type 0 where
  pub bytes : List ℕ
  pub is_longer : Bool

-- the prefix of this part
pub record Holds (prefix : Prefix) (part : List ℕ) : Type 0 where
  pub bytes : prefix.bytes ≡ take longest_part part
  pub is_longer : prefix.is_longer ≡ nat_lt longest_part (length part)
