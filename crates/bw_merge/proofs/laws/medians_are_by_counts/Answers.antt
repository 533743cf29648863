use Rattle.bw_merge.proofs.Ranked.{is_median, one_median, only_median, some_median}
use Rattle.bw_merge.proofs.laws.medians_are_by_counts.Goals as goal

pub returns-clause-is : goal.returns-clause-is
returns-clause-is c = is_median

pub returns-clause-only : goal.returns-clause-only
returns-clause-only c = only_median

pub returns-clause-one : goal.returns-clause-one
returns-clause-one c = one_median

pub returns-clause-there : goal.returns-clause-there
returns-clause-there c = some_median
