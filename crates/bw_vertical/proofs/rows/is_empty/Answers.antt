use Rattle.std.proofs.Common.{arith}
use Rattle.bw_vertical.proofs.Lanes.{empty_is}
use Rattle.bw_vertical.proofs.rows.is_empty.Goals as goal

pub returns : goal.returns
returns c = empty_is c.args.lanes.now (λ k. omega (arith, c.type_inv.lanes k))
