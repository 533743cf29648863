use Rattle.std.proofs.Common.{◌∙◌}
use Rattle.bw_lex.proofs.Utf.{tested}
use Rattle.bw_lex.proofs.piece.is_text.Goals as goal

pub returns : goal.returns
returns c = c.is_ok.ensures.value ∙ tested _ _ _ _ c.from_utf8.ensures.cases
