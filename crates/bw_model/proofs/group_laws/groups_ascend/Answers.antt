use Rattle.bw_model.proofs.GroupLaws.{ascend}
use Rattle.bw_model.proofs.group_laws.groups_ascend.Goals as goal

pub returns : goal.returns
returns c = ascend
