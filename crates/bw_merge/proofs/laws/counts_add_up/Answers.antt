use Rattle.bw_merge.proofs.Ranked.{below-append, up_to-append}
use Rattle.bw_merge.proofs.laws.counts_add_up.Goals as goal

pub returns-clause-up_to : goal.returns-clause-up_to
returns-clause-up_to c = up_to-append

pub returns-clause-below : goal.returns-clause-below
returns-clause-below c = below-append
