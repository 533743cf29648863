use Rattle.bw_merge.proofs.Ranked.{entry_has_rank, one_of_rank, rank_has_entry}
use Rattle.bw_merge.proofs.laws.entries_have_ranks.Goals as goal

pub returns-clause-is : goal.returns-clause-is
returns-clause-is c = entry_has_rank

pub returns-clause-only : goal.returns-clause-only
returns-clause-only c = rank_has_entry

pub returns-clause-one : goal.returns-clause-one
returns-clause-one c = one_of_rank
