use Rattle.std.proofs.Common.{drop, length, ◌++◌, ◌+◌, ◌≡◌}
use Rattle.bw_cells.specs.SetFunctions.{known}
use Rattle.bw_groups.specs.Spreading.{ranks_over}
use Rattle.bw_groups.proofs.numbers.spread.Given as goal

-- the rest is still to be spread, and as many ranks are left as values that are not null
abbrev pub invariant-values : goal.invariant-values
invariant-values l = (l.spread.items ++ ranks_over (drop l.i l.values) (drop l.next l.ranks.items) l.null_rank ≡ ranks_over l.values l.ranks.items l.null_rank) × (l.next + length (known (drop l.i l.values)) ≡ length l.ranks.items)
