use Rattle.bw_merge.proofs.Items.{answers_merge, items_merge, lines_merge}
use Rattle.bw_merge.proofs.laws.set_functions_merge.Goals as goal

pub returns-clause-items : goal.returns-clause-items
returns-clause-items c = items_merge

pub returns-clause-lines : goal.returns-clause-lines
returns-clause-lines c = lines_merge

pub returns-clause-answers : goal.returns-clause-answers
returns-clause-answers c = answers_merge
