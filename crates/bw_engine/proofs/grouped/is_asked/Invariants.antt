use Rattle.std.proofs.Common.{slice_index_or, ℕ, ◌<◌, ◌≢◌}
use Rattle.bw_plan.specs.declared.grouping.GroupItem.{GroupItem}
use Rattle.bw_plan.specs.declared.grouping.GroupItem.TheVariants as grouped
use Rattle.bw_engine.proofs.grouped.is_asked.Given as goal

-- none of those so far is it
abbrev pub invariant-loop-i : goal.invariant-loop-i
invariant-loop-i l = (k : ℕ) (d : GroupItem) → k < l.i → slice_index_or l.items k d ≢ grouped.Function l.function
