use Rattle.std.proofs.Common.{◌∙◌, sym}
use Rattle.bw_lex.proofs.Lexing.{finished, over_separator, over_token, rest_is, start, stopped}
use Rattle.bw_lex.proofs.lexer.tokens.Goals as goal

pub loop-at-init : goal.loop-at-init
loop-at-init c = rw c.new-tokens.ensures.items (start c.args.text.now)

pub loop-at-preserved-in-Separator : goal.loop-at-preserved-in-Separator
loop-at-preserved-in-Separator c =
    over_separator _ _ _ _ c.loop-at.invariant (rest_is c.loop-at.at c.args.text.now _ (sym c.in-Separator.is ∙ c.in_ok-n.ensures.is))

pub loop-at-preserved : goal.loop-at-preserved
loop-at-preserved c =
    rw c.in_ok-push-in-Token.ensures.items (over_token _ _ _ _ c.loop-at.invariant _ (rest_is c.loop-at.at c.args.text.now _ (sym c.in-Token.is ∙ c.in_ok-n.ensures.is)))

pub returns-in-Bad-clause-fault : goal.returns-in-Bad-clause-fault
returns-in-Bad-clause-fault c =
    (_, stopped _ _ _ c.loop-at.invariant c.loop-at-test.true (rest_is c.loop-at.at c.args.text.now _ (sym c.in-Bad.is ∙ c.in_ok-n.ensures.is)))

pub returns-clause-found : goal.returns-clause-found
returns-clause-found c = finished _ _ _ c.loop-at.invariant c.loop-at-test.false
