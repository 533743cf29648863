use Rattle.bw_shell.proofs.Texts.{appends_twice, prefix_after, prefix_before, wrote_prefix, wrote_whole}
use Rattle.std.proofs.Common.{◌++◌, codes, decimal}
use Rattle.bw_shell.proofs.reply_text.put_field_count_fault.Goals as goal

pub returns-in_err-put : goal.returns-in_err-put
returns-in_err-put g c =
    wrote_prefix _ _ _ _ c.from_residual.ensures.0 (prefix_before _ _ (codes "error 42: record " ++ decimal c.args.record) (codes " has the wrong number of fields") (prefix_before _ _ (codes "error 42: record ") (decimal c.args.record) c.in_err-put.ensures))

pub returns-in_err-put_number : goal.returns-in_err-put_number
returns-in_err-put_number g c =
    wrote_prefix _ _ _ _ c.from_residual-in_err-put_number.ensures.0 (prefix_before _ _ (codes "error 42: record " ++ decimal c.args.record) (codes " has the wrong number of fields") (prefix_after _ _ _ (codes "error 42: record ") (decimal c.args.record) c.in_ok-put.ensures c.in_err-put_number.ensures))

pub returns : goal.returns
returns g c =
    wrote_whole _ _ _ (codes "error 42: record " ++ decimal c.args.record) (codes " has the wrong number of fields") _ (appends_twice _ _ _ (codes "error 42: record ") (decimal c.args.record) c.in_ok-put.ensures c.in_ok-put_number.ensures) c.put-2.ensures
