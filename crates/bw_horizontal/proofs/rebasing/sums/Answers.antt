use Rattle.std.proofs.Common.{◌∙◌}
use Rattle.bw_horizontal.proofs.Sums.{sum_at, sum_fits, sum_stored}
use Rattle.bw_horizontal.proofs.rebasing.sums.Goals as goal

pub overflow_add-result : goal.overflow_add-result
overflow_add-result c = record { fits = sum_fits c.args.masks.width c.args.word c.args.more c.requires.word c.requires.more }

pub returns-clause-stored : goal.returns-clause-stored
returns-clause-stored c = sum_stored c.args.masks.width c.args.word c.args.more c.constant.result c.requires.word c.requires.more (λ t h. c.constant.ensures.each t h ∙ c.greatest_code.ensures)

pub returns-clause-each : goal.returns-clause-each
returns-clause-each c = sum_at c.args.masks.width c.args.word c.args.more c.constant.result c.requires.word c.requires.more (λ t h. c.constant.ensures.each t h ∙ c.greatest_code.ensures)
