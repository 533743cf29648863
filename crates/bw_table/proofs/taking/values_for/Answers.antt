use Rattle.std.proofs.Common.{ap, replicate, sym, ◌∙◌}
use Rattle.bw_table.specs.Changes.{places}
use Rattle.bw_table.specs.Sets.{gathered}
use Rattle.bw_table.proofs.Picks.{one_value}
use Rattle.bw_table.proofs.Places.{count_places}
use Rattle.bw_table.proofs.taking.values_for.Goals as goal

pub returns-in-Value-clause-values : goal.returns-in-Value-clause-values
returns-in-Value-clause-values c =
    let mask = c.args.mask.now in
    let x = c.in-Value.x in
    ap (λ n. replicate n x) (sym (count_places mask)) ∙ one_value x (places mask) ∙ ap (gathered c.args.columns.now.items mask) (sym c.in-Value.is)
