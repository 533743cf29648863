use Rattle.std.proofs.Common.{◌≡◌, ◌∙◌, IsTrue}
use Rattle.std.proofs.lemmas.Result.{IfOk-weaker}
use Rattle.bw_lex.specs.Spellings.{is_good_text, quoted}
use Rattle.bw_lex.proofs.Quotes.{behind_first, is_good, is_quoted}
use Rattle.bw_lex.proofs.text.text_says.Goals as goal

pub returns-clause-quoted : goal.returns-clause-quoted
returns-clause-quoted c =
    IfOk-weaker c.text_contents.result _ (λ says. c.args.token.now ≡ quoted says.items) (λ says is. is_quoted c.args.token.now says.items c.requires (is ∙ behind_first c.args.token.now)) c.text_contents.ensures

pub returns-clause-good : goal.returns-clause-good
returns-clause-good c =
    IfOk-weaker c.text_contents.result _ (λ says. IsTrue (is_good_text says.items)) (λ says is. is_good c.args.token.now says.items c.requires (is ∙ behind_first c.args.token.now)) c.text_contents.ensures
