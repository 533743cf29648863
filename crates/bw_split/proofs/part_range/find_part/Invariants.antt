use Rattle.std.proofs.Common.{◌≡◌, ℕ, ◌-◌, ◌≤◌, List, length}
use Rattle.bw_split.specs.Splitting.{progress_of}
use Rattle.bw_split.proofs.Feeding.{GoesOnAt}
use Rattle.bw_split.proofs.part_range.find_part.Given as goal

-- what the piece makes of a part is what the rest of it makes from here on
abbrev pub invariant-loop-stretch : goal.invariant-loop-stretch
invariant-loop-stretch l = (l.start ≤ length l.piece) × ((part : List ℕ) → l.fn.progress ≡ progress_of part → GoesOnAt part l.piece l.start l.progress)

abbrev pub decreases-loop-stretch : goal.decreases-loop-stretch
decreases-loop-stretch l = length l.piece - l.start
