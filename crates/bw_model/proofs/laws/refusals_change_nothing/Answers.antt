use Rattle.bw_model.proofs.Unchanged.{unchanged}
use Rattle.bw_model.proofs.laws.refusals_change_nothing.Goals as goal

pub returns : goal.returns
returns c = unchanged
