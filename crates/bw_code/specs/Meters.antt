-- A meter counts units, and saturates at its greatest value.
use Rattle.std.specs.Prelude.{min, ℕ, ◌+◌, ◌-◌, ◌^◌}

-- a meter after units were added
abbrev pub raised : ℕ → ℕ → ℕ
raised units more = min (units + more) (2 ^ 64 - 1)
