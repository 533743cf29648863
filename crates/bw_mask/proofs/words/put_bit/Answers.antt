use Rattle.std.proofs.Common.{arith, ◌%◌}
use Rattle.bw_mask.proofs.Bits.{one_other}
use Rattle.bw_mask.proofs.words.put_bit.Goals as goal

pub returns-clause-other : goal.returns-clause-other
returns-clause-other c j d = c.replace.ensures.other j (λ e. one_other (c.args.i % 64) (j % 64) (omega arith) (λ f. d (omega arith)))
