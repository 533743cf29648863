use Rattle.bw_shell.proofs.Texts.{appends_twice, prefix_after, prefix_before, wrote_prefix, wrote_whole}
use Rattle.bw_shell.proofs.reply_text.put_call.Goals as goal

pub returns-in_err-put : goal.returns-in_err-put
returns-in_err-put g c =
    wrote_prefix _ _ _ _ c.from_residual.ensures.0 (prefix_before _ _ _ _ (prefix_before _ _ _ _ (prefix_before _ _ _ _ c.in_err-put.ensures)))

pub returns-in_err-put-2 : goal.returns-in_err-put-2
returns-in_err-put-2 g c =
    wrote_prefix _ _ _ _ c.from_residual-in_err-put-2.ensures.0 (prefix_before _ _ _ _ (prefix_before _ _ _ _ (prefix_after _ _ _ _ _ c.in_ok-put.ensures c.in_err-put-2.ensures)))

pub returns-in_err-put-3 : goal.returns-in_err-put-3
returns-in_err-put-3 g c =
    wrote_prefix _ _ _ _ c.from_residual-in_err-put-3.ensures.0
    (prefix_before _ _ _ _ (prefix_after _ _ _ _ _ (appends_twice _ _ _ _ _ c.in_ok-put.ensures c.in_ok-put-2.ensures) c.in_err-put-3.ensures))

pub returns : goal.returns
returns g c =
    wrote_whole _ _ _ _ _ _ (appends_twice _ _ _ _ _ (appends_twice _ _ _ _ _ c.in_ok-put.ensures c.in_ok-put-2.ensures) c.in_ok-put-3.ensures) c.put-4.ensures
