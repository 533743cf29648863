use Rattle.std.proofs.Common.{◌-◌, length}
use Rattle.bw_sql.proofs.LimitLemmas.{Seen}
use Rattle.bw_sql.proofs.limits.terminals.Given as goal

-- the text was seen up to here
abbrev pub invariant-loop-at : goal.invariant-loop-at
invariant-loop-at l = Seen l.text l.at l.terminals.items l.limits.opened l.limits.closed l.limits.after_minus

abbrev pub decreases-loop-at : goal.decreases-loop-at
decreases-loop-at l = length l.text - l.at
