use Rattle.std.proofs.Common.{Some, get_or, length, pos, ℕ, ◌*◌, ◌/◌, ◌<◌, ◌^◌, ◌≡◌, ◌≤◌}
use Rattle.bw_cells.specs.SetFunctions.{known, median}
use Rattle.bw_groups.specs.Grouping.{members}
use Rattle.bw_groups.specs.Runs.{values_in}
use Rattle.bw_groups.proofs.median.medians_of.Given as goal

-- the medians of the groups in the parts before part p
abbrev pub invariant-parts : goal.invariant-parts
invariant-parts g l = record {
  here : l.p ≤ length l.counts / 2 ^ l.bits → length l.medians.items ≡ l.p * 2 ^ l.bits;
  past : length l.counts / 2 ^ l.bits < l.p → length l.medians.items ≡ length l.counts;
  each : (q : ℕ) → q < length l.medians.items → 0 < length (known (members l.ranks (values_in (g.C.ValueRuns.runs l.column)) q)) → median (known (members l.ranks (values_in (g.C.ValueRuns.runs l.column)) q)) ≡ Some (get_or l.medians.items q (pos 0));
}
