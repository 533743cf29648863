use Rattle.bw_merge.proofs.Counted.{and_narrows, below_counted, group_found, inside_found, up_to_counted}
use Rattle.bw_merge.proofs.laws.counts_are_asked.Goals as goal

pub returns-clause-narrows : goal.returns-clause-narrows
returns-clause-narrows c = and_narrows

pub returns-clause-up_to : goal.returns-clause-up_to
returns-clause-up_to c = up_to_counted

pub returns-clause-below : goal.returns-clause-below
returns-clause-below c = below_counted

pub returns-clause-inside : goal.returns-clause-inside
returns-clause-inside c = inside_found

pub returns-clause-group : goal.returns-clause-group
returns-clause-group c = group_found
