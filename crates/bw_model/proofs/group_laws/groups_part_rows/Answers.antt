use Rattle.bw_model.proofs.GroupLaws.{as_many, in_one}
use Rattle.bw_model.proofs.group_laws.groups_part_rows.Goals as goal

pub returns-clause-one : goal.returns-clause-one
returns-clause-one c = in_one

pub returns-clause-count : goal.returns-clause-count
returns-clause-count c = as_many
