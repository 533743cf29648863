use Rattle.std.proofs.Common.{◌∙◌, sym}
use Rattle.std.proofs.lemmas.Result.{err_from_is_err_and}
use Rattle.bw_lex.proofs.Lexing.{rest_is}
use Rattle.bw_sql.proofs.LimitLemmas.{bad_first, seen_all, seen_big_number, seen_next, seen_separator, seen_too_deep, spelled_at}
use Rattle.bw_sql.proofs.limits.terminals.Goals as goal

pub loop-at-preserved-in-Separator : goal.loop-at-preserved-in-Separator
loop-at-preserved-in-Separator c =
    seen_separator _ _ _ _ _ _ c.loop-at.invariant _ (rest_is c.loop-at.at c.args.text.now _ (sym c.in-Separator.is ∙ c.in_ok-n.ensures.is))

pub terminal-requires-clause-spelled : goal.terminal-requires-clause-spelled
terminal-requires-clause-spelled c =
    spelled_at c.args.text.now c.loop-at.at c.in-Token.n c.in-Token.kind (rest_is c.loop-at.at c.args.text.now _ (sym c.in-Token.is ∙ c.in_ok-n.ensures.is))

pub returns-in_err-next-in-Token-clause-fault : goal.returns-in_err-next-in-Token-clause-fault
returns-in_err-next-in-Token-clause-fault c =
    let p = err_from_is_err_and c.from_residual-in_err-next-in-Token.result c.from_residual-in_err-next-in-Token.ensures.1 in
    rw (p.1, p.2, c.in_err-next-in-Token.ensures.0)
    (seen_big_number _ _ _ _ _ _ c.loop-at.invariant c.in-Token.kind c.in-Token.n (rest_is c.loop-at.at c.args.text.now _ (sym c.in-Token.is ∙ c.in_ok-n.ensures.is))
    (rw c.largest_number.ensures at c.in_err-next-in-Token.ensures.1))

pub returns-in_err-admit-in-Token-clause-fault : goal.returns-in_err-admit-in-Token-clause-fault
returns-in_err-admit-in-Token-clause-fault c =
    let p = err_from_is_err_and c.from_residual-in_err-admit-in-Token.result c.from_residual-in_err-admit-in-Token.ensures.1 in
    rw (p.1, p.2, c.in_err-admit-in-Token.ensures.depth.0)
    (seen_too_deep _ _ _ _ _ _ c.loop-at.invariant c.in-Token.kind c.in-Token.n (rest_is c.loop-at.at c.args.text.now _ (sym c.in-Token.is ∙ c.in_ok-n.ensures.is))
    c.in_ok-next-in-Token.next c.in_ok-next-in-Token.ensures.0 (rw c.largest_number.ensures at c.in_ok-next-in-Token.ensures.1) c.in_err-admit-in-Token.ensures.depth.1)

pub loop-at-preserved : goal.loop-at-preserved
loop-at-preserved c =
    seen_next _ _ _ _ _ _ c.loop-at.invariant c.in-Token.kind c.in-Token.n (rest_is c.loop-at.at c.args.text.now _ (sym c.in-Token.is ∙ c.in_ok-n.ensures.is))
    c.in_ok-next-in-Token.next _ _ _ _ c.in_ok-next-in-Token.ensures.0 (rw c.largest_number.ensures at c.in_ok-next-in-Token.ensures.1)
    c.in_ok-admit-in-Token.ensures.depth c.in_ok-push-in-Token.ensures.items c.in_ok-admit-in-Token.ensures.opened c.in_ok-admit-in-Token.ensures.closed c.in_ok-admit-in-Token.ensures.minus

pub returns-in-Bad-clause-fault : goal.returns-in-Bad-clause-fault
returns-in-Bad-clause-fault c =
    bad_first _ _ _ _ _ _ c.loop-at.invariant c.loop-at-test.true (rest_is c.loop-at.at c.args.text.now _ (sym c.in-Bad.is ∙ c.in_ok-n.ensures.is))

pub returns-clause-found : goal.returns-clause-found
returns-clause-found c = seen_all _ _ _ _ _ _ c.loop-at.invariant c.loop-at-test.false
