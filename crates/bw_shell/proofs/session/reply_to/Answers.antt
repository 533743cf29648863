use Rattle.std.proofs.Common.{subst}
use Rattle.bw_sql.specs.Statements.{IsStatementFault, Says}
use Rattle.bw_sql.specs.Tree.{statement_of}
use Rattle.bw_shell.specs.Run.{no_statement, statement, too_long, unclosed}
use Rattle.bw_shell.proofs.session.reply_to.Goals as goal

pub returns-in_default-clause-answers : goal.returns-in_default-clause-answers
returns-in_default-clause-answers g c part is =
    let long = rw c.in_default.is at is in
    too_long long.0

pub returns-then-not-is_closed-clause-answers : goal.returns-then-not-is_closed-clause-answers
returns-then-not-is_closed-clause-answers g c part is =
    let short = rw c.in-Ok.is at is in
    rw c.if-not-is_closed.true (unclosed short.0)

pub returns-in-Ok-statement-clause-answers : goal.returns-in-Ok-statement-clause-answers
returns-in-Ok-statement-clause-answers g c part is =
    let short = rw c.in-Ok.is at is in
    rw c.if-not-is_closed.false (statement (statement_of c.in-Ok-statement.statement) (subst (λ t. Says t (statement_of c.in-Ok-statement.statement)) short.1 c.in-Ok-statement.ensures.found) c.execute.ensures.answers)

pub returns-in-Err-clause-answers : goal.returns-in-Err-clause-answers
returns-in-Err-clause-answers g c part is =
    let short = rw c.in-Ok.is at is in
    rw (c.if-not-is_closed.false, c.from.ensures) (no_statement c.in-Err.fault (subst (λ t. IsStatementFault c.in-Err.fault t) short.1 c.in-Err.ensures.fault))
