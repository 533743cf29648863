-- Values as numbers from 0 on, by their distance above the least, and null as a number above all others.
use Rattle.std.specs.Prelude.{None, Option, Some, if◌then◌else◌, pos, unsigned_abs, ℕ, ℤ, ◌+ℤ◌, ◌-ℤ◌, ◌<ℤ◌, ◌==◌, ◌≤ℤ◌}

-- a value has a number below that of null
abbrev pub IsBelowNull : ℤ → ℕ → ℤ → Type 0
IsBelowNull least null x = (least ≤ℤ x) × (x <ℤ (least +ℤ pos null))

-- the number of a value is its distance above the least; null has its own number
abbrev pub number_on : ℤ → ℕ → Option ℤ → ℕ
number_on least null None = null
number_on least null (Some x) = unsigned_abs (x -ℤ least)

-- the value of a number, or null
abbrev pub value_on : ℤ → ℕ → ℕ → Option ℤ
value_on least null n = if n == null then None else Some (least +ℤ pos n)
