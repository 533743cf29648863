-- The descent to entry n of some sorted codes, from the top plane down (O'Neil and Quass, SIGMOD 1997).
use Rattle.std.specs.Prelude.{Bool, List, All, count_by, if◌then◌else◌, nat_le, nat_lt, ℕ, ◌&&◌, ◌*◌, ◌+◌, ◌-◌, ◌/◌, ◌<◌, ◌==◌, ◌^◌, ◌≡◌, ◌≤◌}
use Rattle.bw_code.specs.Widths.{widest_code}
use Rattle.bw_aggregate.specs.Left.{left_count}
use Rattle.bw_aggregate.specs.declared.end.End.{End}
use Rattle.bw_aggregate.specs.declared.end.End.TheVariants.{Greatest, Least}
use Rattle.bw_aggregate.specs.declared.segments.Left.{Left}

-- the code without its lowest i bits
abbrev pub front : ℕ → ℕ → ℕ
front i code = code / 2 ^ i

-- bits, followed by one more
abbrev pub next : ℕ → Bool → ℕ
next found bit = if bit then found * 2 + 1 else found * 2

-- the rows have these codes, in any order: each test passes equally many of both
abbrev pub Holds : List ℕ → List ℕ → Left → Type 0
Holds codes held left = (p : ℕ → Bool) → left_count codes p left ≡ count_by p held

-- these are codes of k bits
pub record BeginsAll (k : ℕ) (held : List ℕ) : Type 0 where
  pub below : All (λ code. code < 2 ^ k) held
  pub narrow : k ≤ widest_code

-- the number of codes that begin with the bits found so far, above the lowest i bits
abbrev pub begin_count : List ℕ → ℕ → ℕ → ℕ
begin_count held i found = count_by (λ c. front i c == found) held

-- n is the number of codes below those that begin with the bits found so far, plus the rest
pub record IsRest (held : List ℕ) (n i rest found : ℕ) : Type 0 where
  pub below : count_by (λ c. nat_lt (front i c) found) held + rest ≡ n
  pub there : rest < begin_count held i found

-- with i planes to go, the rows that are left are those whose code begins with the bits found so far, and entry n of the codes
-- is entry `nth` of theirs
pub record LeadsTo (codes held : List ℕ) (n i : ℕ) (rows : Left) (nth found : ℕ) : Type 0 where
  pub left : (p : ℕ → Bool) → left_count codes p rows ≡ count_by (λ c. (front i c == found) && p c) held
  pub small : (found + 1) * 2 ^ i ≤ 2 ^ 64
  pub rest : IsRest held n i nth found

-- the index of the first or the last of that many entries
abbrev pub end_of : End → ℕ → ℕ
end_of Least count = 0
end_of Greatest count = count - 1

-- at most n codes are below it, more than n are not above it, and it is one of the codes
pub record IsNthCode (codes : List ℕ) (n code : ℕ) : Type 0 where
  pub below : count_by (λ c. nat_lt c code) codes ≤ n
  pub upto : n < count_by (λ c. nat_le c code) codes
  pub there : 0 < count_by (λ c. c == code) codes
