use Rattle.bw_groups.proofs.Measured.{by_bits}
use Rattle.bw_groups.proofs.measured_run.filled_run.Goals as goal

pub returns : goal.returns
returns c = λ base run out are. by_bits base run c.args.len c.set_bytes.result out c.args.there.now are c.set_bytes.ensures
