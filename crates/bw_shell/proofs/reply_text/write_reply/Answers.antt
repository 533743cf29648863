use Rattle.bw_shell.proofs.Texts.{prefix_before, wrote_prefix, wrote_whole}
use Rattle.bw_shell.proofs.reply_text.write_reply.Goals as goal

pub returns-in_err-put_refusal-in-Refused : goal.returns-in_err-put_refusal-in-Refused
returns-in_err-put_refusal-in-Refused g c =
    rw c.in-Refused.is (wrote_prefix _ _ _ _ c.from_residual.ensures.0 (prefix_before _ _ _ _ c.in_err-put_refusal-in-Refused.ensures))

pub returns-in_ok-put_refusal-in-Refused : goal.returns-in_ok-put_refusal-in-Refused
returns-in_ok-put_refusal-in-Refused g c =
    rw c.in-Refused.is (wrote_whole _ _ _ _ _ _ c.in_ok-put_refusal-in-Refused.ensures c.put-in-Refused.ensures)
