use Rattle.bw_split.specs.Splitting.{is_blank_part}
use Rattle.bw_shell.proofs.Rests.{is_blank, is_not_blank, no_rest, rest_answered, rest_ended}
use Rattle.bw_shell.proofs.session.Session.answer_rest.Goals as goal

pub returns-then-not-finish-clause-answers : goal.returns-then-not-finish-clause-answers
returns-then-not-finish-clause-answers g c part begun =
    no_rest _ part _ _ (is_blank c.finish.result (is_blank_part part) (c.finish.ensures.says part begun) c.if-not-finish.true)

pub returns-in-Some-clause-answers : goal.returns-in-Some-clause-answers
returns-in-Some-clause-answers g c part begun =
    let stands = rw c.if-not-finish.false at (c.finish.ensures.stands part begun) in
    let answered = c.in-Some.ensures.answers part stands in
    rest_ended _ part _ _ (is_not_blank c.finish.result (is_blank_part part) (c.finish.ensures.says part begun) c.if-not-finish.false) answered.0 _ _ answered.1 _ answered.2

pub returns-in-None-clause-answers : goal.returns-in-None-clause-answers
returns-in-None-clause-answers g c part begun =
    let stands = rw c.if-not-finish.false at (c.finish.ensures.stands part begun) in
    let answered = c.in-None.ensures.answers part stands in
    rest_answered _ part _ _ (is_not_blank c.finish.result (is_blank_part part) (c.finish.ensures.says part begun) c.if-not-finish.false) answered.0 _ _ answered.1 answered.2
