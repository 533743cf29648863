use Rattle.bw_engine.proofs.OneStored.{one_stored}
use Rattle.bw_engine.proofs.laws.one_stored.Goals as goal

pub returns : goal.returns
returns c = one_stored
