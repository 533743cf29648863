use Rattle.bw_lane.proofs.Bits.{row_and}
use Rattle.bw_vertical.proofs.rows.both.Goals as goal

pub returns : goal.returns
returns c j h = row_and c.args.a.now c.args.b.now c.told-a c.told-b j h
