use Rattle.bw_code.proofs.Offsets.{ones}
use Rattle.bw_aggregate.proofs.end.greatest_code.Goals as goal

pub returns : goal.returns
returns c = ones c.args.bits c.requires.some c.requires.few
