use Rattle.std.proofs.Common.{◌∷◌, [], ◌++◌, List, ℕ, subst}
use Rattle.bw_shell.proofs.Texts.{prefix_before, wrote_prefix, wrote_whole}
use Rattle.bw_shell.specs.Writing.{Wrote}
use Rattle.bw_program.proofs.ending.say.Goals as goal

pub returns-in_err-put : goal.returns-in_err-put
returns-in_err-put g c =
    subst (λ (line : List ℕ). Wrote (g.W.Write.contents c.args.errors.now) (g.W.Write.contents c.put.new.writer) (line ++ 10 ∷ []) c.from_residual.result) c.as_bytes.ensures.value
    (wrote_prefix _ _ _ _ c.from_residual.ensures.0 (prefix_before _ _ _ _ c.in_err-put.ensures))

pub returns : goal.returns
returns g c =
    subst (λ (line : List ℕ). Wrote (g.W.Write.contents c.args.errors.now) (g.W.Write.contents c.put-2.new.writer) (line ++ 10 ∷ []) c.put-2.result) c.as_bytes.ensures.value
    (wrote_whole _ _ _ _ _ _ c.in_ok-put.ensures c.put-2.ensures)
