use Rattle.std.proofs.Common.{arith, sym, ◌∙◌}
use Rattle.bw_aggregate.proofs.Descents.{all_begin, begin_all, rest_start, small_start}
use Rattle.bw_aggregate.proofs.descent.Descent.from_top.Goals as goal

pub returns : goal.returns
returns c codes held k holds begins many low = record {
  leads = record {
    left = λ p. holds p ∙ all_begin k held begins p;
    small = small_start k held begins;
    rest = rest_start k held begins c.args.nth (omega (arith, many, low));
  };
  count = many ∙ sym (begin_all k held begins);
}
