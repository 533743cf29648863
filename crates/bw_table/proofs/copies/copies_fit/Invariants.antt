use Rattle.std.proofs.Common.{get_or, ℕ, ◌<◌}
use Rattle.bw_code.specs.Types.{types_of}
use Rattle.bw_table.specs.Changes.{rows_found}
use Rattle.bw_table.specs.declared.setting.SetTo.{SetTo}
use Rattle.bw_table.proofs.Copied.{Fits}
use Rattle.bw_table.proofs.copies.copies_fit.Given as goal

-- the sets so far fit
abbrev pub invariant-loop-set : goal.invariant-loop-set
invariant-loop-set g l = (j : ℕ) (s : ℕ × SetTo) → j < l.set-index → Fits (types_of l.headers) (rows_found l.found l.slots.slots) (get_or l.sets j s)
