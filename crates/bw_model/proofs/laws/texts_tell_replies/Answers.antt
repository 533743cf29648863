use Rattle.bw_model.proofs.ReplyTexts.{told}
use Rattle.bw_model.proofs.laws.texts_tell_replies.Goals as goal

pub returns : goal.returns
returns c = told
