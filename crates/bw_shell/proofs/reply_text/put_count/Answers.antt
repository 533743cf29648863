use Rattle.bw_shell.proofs.Texts.{appends_twice, prefix_after, prefix_before, wrote_prefix, wrote_whole}
use Rattle.bw_shell.proofs.reply_text.put_count.Goals as goal

pub returns-in_err-put : goal.returns-in_err-put
returns-in_err-put g c =
    wrote_prefix _ _ _ _ c.from_residual.ensures.0 (prefix_before _ _ _ _ (prefix_before _ _ _ _ c.in_err-put.ensures))

pub returns-in_err-put_number : goal.returns-in_err-put_number
returns-in_err-put_number g c =
    wrote_prefix _ _ _ _ c.from_residual-in_err-put_number.ensures.0 (prefix_before _ _ _ _ (prefix_after _ _ _ _ _ c.in_ok-put.ensures c.in_err-put_number.ensures))

pub returns : goal.returns
returns g c =
    wrote_whole _ _ _ _ _ _ (appends_twice _ _ _ _ _ c.in_ok-put.ensures c.in_ok-put_number.ensures) c.put-2.ensures
