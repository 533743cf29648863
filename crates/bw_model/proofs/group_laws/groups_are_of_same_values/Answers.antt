use Rattle.bw_model.proofs.GroupLaws.{same_in_group, together}
use Rattle.bw_model.proofs.group_laws.groups_are_of_same_values.Goals as goal

pub returns-clause-same : goal.returns-clause-same
returns-clause-same c = same_in_group

pub returns-clause-together : goal.returns-clause-together
returns-clause-together c = together
