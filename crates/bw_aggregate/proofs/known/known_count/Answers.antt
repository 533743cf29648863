use Rattle.std.proofs.Common.{◌∙◌}
use Rattle.bw_aggregate.proofs.KnownValues.{both_known}
use Rattle.bw_aggregate.proofs.known.known_count.Goals as goal

pub returns-clause-is : goal.returns-clause-is
returns-clause-is c =
    c.count_both.ensures.rows ∙ both_known c.args.rows.now.rows c.nonnull.result.now.rows c.args.column.now.values c.requires c.nonnull.ensures.rows
