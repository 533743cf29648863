use Rattle.std.proofs.Common.{get_or, ℕ, ◌<◌, ◌≢◌}
use Rattle.bw_table.specs.declared.setting.SetTo.{SetTo}
use Rattle.bw_table.proofs.setting.is_set.Given as goal

-- none of the sets so far is of the column
abbrev pub invariant-loop-set : goal.invariant-loop-set
invariant-loop-set l = (j : ℕ) (d : ℕ × SetTo) → j < l.set-index → (get_or l.sets j d).0 ≢ l.column
