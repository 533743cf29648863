use Rattle.bw_vertical.proofs.Sums.{longer_is}
use Rattle.bw_vertical.proofs.addition.is_longer.Goals as goal

pub returns-then-n-lt64 : goal.returns-then-n-lt64
returns-then-n-lt64 c = longer_is c.args.number c.args.n
