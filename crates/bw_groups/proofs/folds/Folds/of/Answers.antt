use Rattle.std.proofs.Common.{None, ap, arith, get_or, length, pos, subst, sym, ◌<◌, ◌∙◌}
use Rattle.bw_aggregate.specs.Summaries.{IsSummary}
use Rattle.bw_cells.specs.SetFunctions.{known}
use Rattle.bw_groups.specs.Folding.{sums_in}
use Rattle.bw_groups.specs.Grouping.{members}
use Rattle.bw_groups.specs.Runs.{values_in}
use Rattle.bw_groups.proofs.Summing.{summaries_count, summary_is, summary_there}
use Rattle.bw_groups.proofs.folds.Folds.of.Goals as goal

pub returns-clause-count : goal.returns-clause-count
returns-clause-count g c =
    ap length c.from_parts.ensures
    ∙ summaries_count c.args.asked c.in_ok-counts.counts.items (sums_in c.in_ok-sums.sums) c.in_ok-ends.ends.items c.in_ok-medians.medians.items
    ∙ c.in_ok-counts.ensures.count

pub returns-clause-summaries : goal.returns-clause-summaries
returns-clause-summaries b c = λ g d low.
    let counts = c.in_ok-counts.counts.items in
    let sums = (sums_in c.in_ok-sums.sums) in
    let ends = c.in_ok-ends.ends.items in
    let medians = c.in_ok-medians.medians.items in
    let values = known (members c.args.groups.now.ranks (values_in (b.C.ValueRuns.runs c.args.column.now)) g) in
    let there : g < length counts = omega (arith, low, c.in_ok-counts.ensures.count) in
    subst (IsSummary c.args.asked values)
    (sym (ap (λ xs. get_or xs g d) c.from_parts.ensures ∙ summary_there c.args.asked counts sums ends medians g d there))
    (summary_is c.args.asked values (get_or counts g 0) (get_or sums g (pos 0)) (get_or ends g None) (get_or medians g (pos 0))
    (c.in_ok-counts.ensures.tells g 0 there)
    (λ h. c.in_ok-sums.ensures.sums h g (pos 0) (omega (arith, low, c.in_ok-sums.ensures.count h)))
    (λ h. c.in_ok-ends.ensures.tells (c.asks_ends.ensures ∙ h) g None (omega (arith, low, c.in_ok-ends.ensures.count (c.asks_ends.ensures ∙ h))))
    (λ h some. c.in_ok-medians.ensures h g low some))
