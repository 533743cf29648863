use Rattle.bw_lane.proofs.Bits.{row_or}
use Rattle.bw_vertical.proofs.rows.either.Goals as goal

pub returns : goal.returns
returns c j h = row_or c.args.a.now c.args.b.now c.told-a c.told-b j h
