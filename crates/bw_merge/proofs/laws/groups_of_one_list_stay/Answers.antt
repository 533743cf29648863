use Rattle.bw_merge.proofs.Grouped.{first_stays, second_stays}
use Rattle.bw_merge.proofs.laws.groups_of_one_list_stay.Goals as goal

pub returns-clause-first : goal.returns-clause-first
returns-clause-first c = first_stays

pub returns-clause-second : goal.returns-clause-second
returns-clause-second c = second_stays
