use Rattle.std.proofs.Common.{ap, rules, ◌∙◌, ◌≡◌}
use Rattle.bw_code.specs.Encodings.{kind_of}
use Rattle.bw_column.specs.Places.{chosen_values}
use Rattle.bw_table.proofs.Places.{masked_chosen}
use Rattle.bw_table.proofs.taking.values_from.Goals as goal

pub returns-then-are_many-clause-values : goal.returns-then-are_many-clause-values
returns-then-are_many-clause-values c = ap (chosen_values c.args.mask.now) c.in_ok-copy_at.ensures.values ∙ masked_chosen c.args.mask.now c.args.column.now.values c.requires.long

pub returns-then-are_many-clause-fits : goal.returns-then-are_many-clause-fits
returns-then-are_many-clause-fits c =
    let kind : kind_of c.args.column.now.encoding ≡ c.args.kind = search rules in
    (ap kind_of c.in_ok-copy_at.ensures.encoding ∙ kind, c.in_ok-copy_at.ensures.masked)
