use Rattle.std.proofs.Common.{ap, length, sym, ◌∙◌}
use Rattle.bw_groups.specs.Runs.{values_in}
use Rattle.bw_groups.proofs.Counts.{times_count}
use Rattle.bw_groups.proofs.folds.counts_of.Goals as goal

pub returns-clause-count : goal.returns-clause-count
returns-clause-count g c = ap length (c.in_ok-counts.ensures.items_if_clones_equal (λ x y h. h)) ∙ c.times.ensures.count

pub returns-clause-tells : goal.returns-clause-tells
returns-clause-tells g c = times_count c.args.groups.now.ranks c.times.result.now c.in_ok-counts.counts.items (values_in (g.C.ValueRuns.runs c.args.column.now)) (c.in_ok-counts.ensures.items_if_clones_equal (λ x y h. h)) c.times.ensures.counted c.requires (sym c.in_ok-known.ensures ∙ c.if-not-known.false)
