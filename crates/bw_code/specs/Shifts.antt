-- Codes rebased: an integer is added to those of some rows, and the others stay.
use Rattle.std.specs.Prelude.{Bool, false, if◌then◌else◌, pos, true, ℕ, ℤ, ◌%◌, ◌+ℤ◌, ◌+◌, ◌<ℤ◌, ◌<◌, ◌^◌, ◌≡◌, ◌≤ℤ◌}

abbrev pub shifted : ℤ → Bool → ℕ → ℤ
shifted by true code = pos code +ℤ by
shifted by false code = pos code

-- at least 0 and below the bound
abbrev pub StaysBelow : ℕ → ℤ → Type 0
StaysBelow bound x = (pos 0 ≤ℤ x) × (x <ℤ pos bound)

-- a code, to which a number is added modulo 2^64 where it moves
abbrev pub moved : ℕ → Bool → ℕ → ℕ
moved word there code = (code + (if there then word else 0)) % 2 ^ 64

-- the number that is added modulo 2^64 in place of an integer
abbrev pub IsWord : ℤ → ℕ → Type 0
IsWord by word = (code sum : ℕ) → code < 2 ^ 64 → sum < 2 ^ 64 → pos sum ≡ pos code +ℤ by → (code + word) % 2 ^ 64 ≡ sum
