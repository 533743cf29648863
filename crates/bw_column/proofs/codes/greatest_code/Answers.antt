use Rattle.bw_code.proofs.Offsets.{ones}
use Rattle.bw_column.proofs.codes.greatest_code.Goals as goal

pub returns : goal.returns
returns c = ones c.args.offset.width c.args.offset.some c.args.offset.few
