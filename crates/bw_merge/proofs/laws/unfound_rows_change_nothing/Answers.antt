use Rattle.bw_merge.proofs.Items.{first_answers, second_answers}
use Rattle.bw_merge.proofs.laws.unfound_rows_change_nothing.Goals as goal

pub returns-clause-first : goal.returns-clause-first
returns-clause-first c = first_answers

pub returns-clause-second : goal.returns-clause-second
returns-clause-second c = second_answers
