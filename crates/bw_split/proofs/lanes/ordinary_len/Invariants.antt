use Rattle.std.proofs.Common.{◌≡◌, ◌+◌, ◌-◌, ◌≤◌, ◌==◌, length, drop}
use Rattle.std.specs.List.{prefix_len}
use Rattle.bw_split.specs.Ordinary.{specials, ordinary_len}
use Rattle.bw_split.proofs.lanes.ordinary_len.Given as goal

-- the bytes before this index begin nothing
abbrev pub invariant-loop-at : goal.invariant-loop-at
invariant-loop-at l = (ordinary_len l.bytes ≡ l.at + prefix_len (λ x. x == 0) (drop l.at (specials l.bytes))) × (l.at ≤ length l.bytes)

abbrev pub decreases-loop-at : goal.decreases-loop-at
decreases-loop-at l = length l.bytes - l.at
