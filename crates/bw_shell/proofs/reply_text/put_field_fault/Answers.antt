use Rattle.bw_shell.proofs.Texts.{appends_twice, prefix_after, prefix_before, wrote_prefix, wrote_whole}
use Rattle.std.proofs.Common.{◌++◌, codes, decimal}
use Rattle.bw_shell.proofs.reply_text.put_field_fault.Goals as goal

pub returns-in_err-put : goal.returns-in_err-put
returns-in_err-put g c =
    wrote_prefix _ _ _ _ c.from_residual.ensures.0 (prefix_before _ _ (codes "error 43: record " ++ decimal c.args.record ++ codes " field " ++ decimal c.args.field) (codes " is not an integer") (prefix_before _ _ (codes "error 43: record " ++ decimal c.args.record ++ codes " field ") (decimal c.args.field) (prefix_before _ _ (codes "error 43: record " ++ decimal c.args.record) (codes " field ") (prefix_before _ _ (codes "error 43: record ") (decimal c.args.record) c.in_err-put.ensures))))

pub returns-in_err-put_number : goal.returns-in_err-put_number
returns-in_err-put_number g c =
    wrote_prefix _ _ _ _ c.from_residual-in_err-put_number.ensures.0 (prefix_before _ _ (codes "error 43: record " ++ decimal c.args.record ++ codes " field " ++ decimal c.args.field) (codes " is not an integer") (prefix_before _ _ (codes "error 43: record " ++ decimal c.args.record ++ codes " field ") (decimal c.args.field) (prefix_before _ _ (codes "error 43: record " ++ decimal c.args.record) (codes " field ") (prefix_after _ _ _ (codes "error 43: record ") (decimal c.args.record) c.in_ok-put.ensures c.in_err-put_number.ensures))))

pub returns-in_err-put-2 : goal.returns-in_err-put-2
returns-in_err-put-2 g c =
    wrote_prefix _ _ _ _ c.from_residual-in_err-put-2.ensures.0 (prefix_before _ _ (codes "error 43: record " ++ decimal c.args.record ++ codes " field " ++ decimal c.args.field) (codes " is not an integer") (prefix_before _ _ (codes "error 43: record " ++ decimal c.args.record ++ codes " field ") (decimal c.args.field) (prefix_after _ _ _ (codes "error 43: record " ++ decimal c.args.record) (codes " field ") (appends_twice _ _ _ (codes "error 43: record ") (decimal c.args.record) c.in_ok-put.ensures c.in_ok-put_number.ensures) c.in_err-put-2.ensures)))

pub returns-in_err-put_number-2 : goal.returns-in_err-put_number-2
returns-in_err-put_number-2 g c =
    wrote_prefix _ _ _ _ c.from_residual-in_err-put_number-2.ensures.0 (prefix_before _ _ (codes "error 43: record " ++ decimal c.args.record ++ codes " field " ++ decimal c.args.field) (codes " is not an integer") (prefix_after _ _ _ (codes "error 43: record " ++ decimal c.args.record ++ codes " field ") (decimal c.args.field) (appends_twice _ _ _ (codes "error 43: record " ++ decimal c.args.record) (codes " field ") (appends_twice _ _ _ (codes "error 43: record ") (decimal c.args.record) c.in_ok-put.ensures c.in_ok-put_number.ensures) c.in_ok-put-2.ensures) c.in_err-put_number-2.ensures))

pub returns : goal.returns
returns g c =
    wrote_whole _ _ _ (codes "error 43: record " ++ decimal c.args.record ++ codes " field " ++ decimal c.args.field) (codes " is not an integer") _ (appends_twice _ _ _ (codes "error 43: record " ++ decimal c.args.record ++ codes " field ") (decimal c.args.field) (appends_twice _ _ _ (codes "error 43: record " ++ decimal c.args.record) (codes " field ") (appends_twice _ _ _ (codes "error 43: record ") (decimal c.args.record) c.in_ok-put.ensures c.in_ok-put_number.ensures) c.in_ok-put-2.ensures) c.in_ok-put_number-2.ensures) c.put-3.ensures
