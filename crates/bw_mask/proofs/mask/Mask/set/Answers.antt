use Rattle.std.proofs.Common.{◌<◌, arith}
use Rattle.bw_mask.proofs.Views.{rows_len, rows_set}
use Rattle.bw_mask.proofs.mask.Mask.set.Goals as goal

pub returns-clause-rows : goal.returns-clause-rows
returns-clause-rows c =
    let low : c.args.i < c.self.inside.len = grind (arith, rows_len) in
    rw (← c.self.view_is) (rows_set c.self.inside.len _ _ c.args.i c.args.bit low c.put_bit.ensures.same c.put_bit.ensures.other)
