-- Adding numbers bit by bit from the lowest up.
use Rattle.std.specs.Prelude.{Bool, List, [], if◌then◌else◌, nat_lt, not, slice_index_or, ℕ, ◌%◌, ◌*◌, ◌+◌, ◌-◌, ◌/◌, ◌<◌, ◌==◌, ◌^◌, ◌≡◌}
use Rattle.bw_mask.specs.Masks.{bit_of, row_in}
use Rattle.bw_vertical.specs.Storage.{code_of}

-- the carry out of the n lowest bits
abbrev pub carried : ℕ → ℕ → ℕ → ℕ
carried x y n = (x % 2 ^ n + y % 2 ^ n) / 2 ^ n

-- row j of some lanes as a number
abbrev pub lane_bit : List ℕ → ℕ → ℕ
lane_bit lanes j = if row_in lanes j then 1 else 0

-- m adjacent planes hold in row j the bits of x from bit `top` downwards
abbrev pub HoldBits : List (List ℕ) → ℕ → ℕ → ℕ → ℕ → ℕ → Type 0
HoldBits planes from m top j x = (i : ℕ) → i < m → row_in (slice_index_or planes (from + i) []) j ≡ bit_of x (top - i)

-- the carry into bit b in row j of segment q, where a number is added to the codes of the moved rows
abbrev pub IsCarry : List ℕ → ℕ → List (List (List ℕ)) → List ℕ → ℕ → ℕ → ℕ → ℕ → Type 0
IsCarry carry k groups moved by q b j = lane_bit carry j ≡ carried (code_of k groups (256 * q + j)) (if row_in moved (256 * q + j) then by else 0) b

-- x + lift and y by their n lowest bits: whether the addition carries, whether the sum is below y, and whether the two differ
pub record AreCompared (x lift y n : ℕ) (carry lt differ : Bool) : Type 0 where
  pub carry_is : carry ≡ (carried x lift n == 1)
  pub less : lt ≡ nat_lt ((x + lift) % 2 ^ n) (y % 2 ^ n)
  pub differs : differ ≡ not ((x + lift) % 2 ^ n == y % 2 ^ n)
