use Rattle.bw_merge.proofs.Grouped.{groups_merge, rows_at_groups, rows_follow, values_merge}
use Rattle.bw_merge.proofs.laws.groups_merge.Goals as goal

pub returns-clause-values : goal.returns-clause-values
returns-clause-values c = values_merge

pub returns-clause-rows : goal.returns-clause-rows
returns-clause-rows c = rows_follow

pub returns-clause-groups : goal.returns-clause-groups
returns-clause-groups c = groups_merge

pub returns-clause-have : goal.returns-clause-have
returns-clause-have c = rows_at_groups
