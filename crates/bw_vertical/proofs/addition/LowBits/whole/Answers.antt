use Rattle.std.proofs.Common.{◌∙◌}
use Rattle.bw_mask.specs.Masks.{row_in}
use Rattle.bw_vertical.proofs.Sums.{whole_differs, whole_less}
use Rattle.bw_vertical.proofs.addition.LowBits.whole.Goals as goal

pub returns-clause-less : goal.returns-clause-less
returns-clause-less c j x y h low other before = c.without.ensures j h ∙ whole_less x c.args.lift y c.args.n _ _ _ (row_in c.past-past.result j) other before (c.past-past.ensures j x y h low before)

pub returns-clause-differ : goal.returns-clause-differ
returns-clause-differ c j x y h low other before = c.either.ensures j h ∙ whole_differs x c.args.lift y c.args.n _ _ _ (row_in c.past-past.result j) other before (c.past-past.ensures j x y h low before)
