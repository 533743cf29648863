use Rattle.std.proofs.Common.{◌≡◌, ◌∙◌, ◌++◌, codes, decimal, append_assoc, sym, string_bytes}
use Rattle.std.proofs.lemmas.Result.{IfOk-weaker}
use Rattle.bw_model.specs.ReplyText.{refusal_text}
use Rattle.bw_model.specs.declared.refusal.Refusal.TheVariants.{NotInteger}
use Rattle.bw_model.proofs.texts.refusal_text.Goals as goal

pub returns-in-NotInteger : goal.returns-in-NotInteger
returns-in-NotInteger c =
    let r = c.in-NotInteger.record in
    let f = c.in-NotInteger.field in
    let text : codes "error 43: record " ++ (decimal r ++ (codes " field " ++ (decimal f ++ codes " is not an integer"))) ≡ refusal_text (NotInteger r f) = sym (simp append_assoc) in
    rw c.in-NotInteger.is
    (IfOk-weaker c.format-in-NotInteger.result (λ s. string_bytes s ≡ codes "error 43: record " ++ (decimal r ++ (codes " field " ++ (decimal f ++ codes " is not an integer")))) (λ s. string_bytes s ≡ refusal_text (NotInteger r f)) (λ s wrote. wrote ∙ text) c.format-in-NotInteger.ensures.ok)
