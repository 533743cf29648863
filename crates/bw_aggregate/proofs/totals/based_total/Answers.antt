use Rattle.std.proofs.Common.{FitsSigned, rules, w64, ◌≡◌, ◌∙◌}
use Rattle.std.proofs.lemmas.Int.{to_z-of_z}
use Rattle.bw_aggregate.proofs.Sums.{based-sum}
use Rattle.bw_aggregate.proofs.totals.based_total.Goals as goal

pub returns : goal.returns
returns c =
    let fits : FitsSigned w64 c.args.base = search rules in
    let base : c.from.result ≡ c.args.base = c.from.ensures ∙ to_z-of_z w64 c.args.base fits in
    rw base (based-sum c.args.base c.args.count c.args.codes fits c.requires.few c.requires.small)
