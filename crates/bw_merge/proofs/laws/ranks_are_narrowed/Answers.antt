use Rattle.bw_merge.proofs.Ranked.{rank_held, rank_within}
use Rattle.bw_merge.proofs.laws.ranks_are_narrowed.Goals as goal

pub returns-clause-held : goal.returns-clause-held
returns-clause-held c = rank_held

pub returns-clause-inside : goal.returns-clause-inside
returns-clause-inside c = rank_within
