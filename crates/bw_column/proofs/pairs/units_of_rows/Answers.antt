use Rattle.std.proofs.Common.{ap, ◌*◌, ◌∙◌}
use Rattle.bw_column.proofs.Scans.{fetched}
use Rattle.bw_column.proofs.pairs.units_of_rows.Goals as goal

pub returns : goal.returns
returns c = ap (λ n. 2 * n) c.count.ensures.rows ∙ fetched c.args.rows.now
