use Rattle.bw_merge.proofs.Items.{answers_follow, found_follow, lines_follow}
use Rattle.bw_merge.proofs.laws.found_rows_follow.Goals as goal

pub returns-clause-rows : goal.returns-clause-rows
returns-clause-rows c = found_follow

pub returns-clause-lines : goal.returns-clause-lines
returns-clause-lines c = lines_follow

pub returns-clause-answers : goal.returns-clause-answers
returns-clause-answers c = answers_follow
