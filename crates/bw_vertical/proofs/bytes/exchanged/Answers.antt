use Rattle.bw_vertical.proofs.Exchanging.{high_bit, low_bit}
use Rattle.bw_vertical.proofs.bytes.exchanged.Goals as goal

pub returns-clause-low : goal.returns-clause-low
returns-clause-low c r h = low_bit c.args.low c.args.high c.args.s c.args.mask c.requires r h

pub returns-clause-high : goal.returns-clause-high
returns-clause-high c r h = high_bit c.args.low c.args.high c.args.s c.args.mask c.requires r
