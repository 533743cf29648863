use Rattle.bw_merge.proofs.Grouped.{answers_are_lines, group_items_merge, group_lines_merge, grouped_answers_merge}
use Rattle.bw_merge.proofs.laws.lines_of_groups_merge.Goals as goal

pub returns-clause-items : goal.returns-clause-items
returns-clause-items c = group_items_merge

pub returns-clause-lines : goal.returns-clause-lines
returns-clause-lines c = group_lines_merge

pub returns-clause-shown : goal.returns-clause-shown
returns-clause-shown c = answers_are_lines

pub returns-clause-answers : goal.returns-clause-answers
returns-clause-answers c = grouped_answers_merge
