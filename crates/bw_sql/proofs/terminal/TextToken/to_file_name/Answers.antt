use Rattle.std.proofs.Common.{◌≡◌, ◌∙◌, ap, sym}
use Rattle.std.proofs.lemmas.Result.{IfOk-weaker}
use Rattle.bw_lex.specs.Pieces.{text_says}
use Rattle.bw_lex.proofs.Quotes.{text_says-quoted}
use Rattle.bw_sql.proofs.terminal.TextToken.to_file_name.Goals as goal

pub returns : goal.returns
returns c =
    IfOk-weaker c.from_text.result _ (λ file. file ≡ c.args.self.now) (λ file is. sym (ap text_says is ∙ text_says-quoted file) ∙ c.self.view_is) c.from_text.ensures
