use Rattle.std.proofs.Common.{◌∙◌}
use Rattle.bw_mask.proofs.Views.{rows_push}
use Rattle.bw_mask.proofs.mask.Mask.push.Goals as goal

pub returns-clause-rows : goal.returns-clause-rows
returns-clause-rows c =
    rw (← c.self.view_is) (rows_push c.self.inside.len _ _ c.args.bit c.put_bit.ensures.same (λ j d. c.put_bit.ensures.other j d ∙ c.begin_word.ensures.rows j))
