-- Distances of cells from a base, and which cells are integers.
use Rattle.std.specs.Prelude.{None, Option, Some, ℕ, ℤ, ◌%◌, ◌+◌, ◌-◌, ◌^◌}
use Rattle.std.specs.Int.{cast_unsigned, w64}

-- of an integer its distance from the base, modulo 2^64; of a NULL 0
abbrev pub distance_from : ℤ → Option ℤ → ℕ
distance_from base None = 0
distance_from base (Some number) = (cast_unsigned w64 number + (2 ^ 64 - cast_unsigned w64 base)) % 2 ^ 64
