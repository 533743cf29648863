use Rattle.bw_merge.proofs.Ranked.{median_between}
use Rattle.bw_merge.proofs.laws.medians_bound_the_median.Goals as goal

pub returns : goal.returns
returns c = median_between
