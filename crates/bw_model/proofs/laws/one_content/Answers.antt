use Rattle.bw_model.proofs.OneTable.{one_said}
use Rattle.bw_model.proofs.laws.one_content.Goals as goal

pub returns : goal.returns
returns c = one_said
