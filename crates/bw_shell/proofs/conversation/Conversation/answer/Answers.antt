use Rattle.std.proofs.Common.{[]}
use Rattle.bw_shell.proofs.Conversed.{answered, ended_early}
use Rattle.bw_shell.proofs.conversation.Conversation.answer.Goals as goal

pub answer_rest-requires-clause-begun : goal.answer_rest-requires-clause-begun
answer_rest-requires-clause-begun c = (c.in-None.ensures.answers [] c.self.invariant).1.1

pub returns-in-Some-clause-answers : goal.returns-in-Some-clause-answers
returns-in-Some-clause-answers c =
    rw (← c.self.view_is) (ended_early _ c.args.script.now _ _ _ _ c.in-Some.end (c.in-Some.ensures.answers [] c.self.invariant))

pub returns-in-None-clause-answers : goal.returns-in-None-clause-answers
returns-in-None-clause-answers c =
    let went = c.in-None.ensures.answers [] c.self.invariant in
    let rest = rw c.in-None.ensures.on_error at (c.answer_rest.ensures.answers went.0 went.1) in
    rw (← c.self.view_is) (answered _ c.args.script.now _ _ _ _ c.answer_rest.result _ _ went.0 went.2 rest)
