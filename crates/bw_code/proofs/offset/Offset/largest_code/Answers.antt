use Rattle.bw_code.proofs.Offsets.{ones}
use Rattle.bw_code.proofs.offset.Offset.largest_code.Goals as goal

pub returns : goal.returns
returns c = ones c.args.self.width c.args.self.some c.args.self.few
