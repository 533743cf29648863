use Rattle.bw_model.proofs.Unchanged.{refused_first}
use Rattle.bw_model.proofs.laws.refusals_need_no_memory.Goals as goal

pub returns : goal.returns
returns c = refused_first
