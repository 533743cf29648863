use Rattle.std.proofs.Common.{ap, sym, ◌*◌, ◌∙◌}
use Rattle.bw_code.proofs.UnitLemmas.{units_of_pairs}
use Rattle.bw_code.proofs.plain_pair.units.Goals as goal

pub returns : goal.returns
returns c width codes others same = ap (λ n. 2 * n) c.count.ensures.rows ∙ sym (units_of_pairs width c.args.need.now.rows codes same others)
