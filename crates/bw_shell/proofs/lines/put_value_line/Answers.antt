use Rattle.std.proofs.Common.{codes}
use Rattle.bw_shell.proofs.Texts.{prefix_before, wrote_prefix, wrote_whole}
use Rattle.bw_shell.proofs.lines.put_value_line.Goals as goal

pub returns-in_err-put_comma_values : goal.returns-in_err-put_comma_values
returns-in_err-put_comma_values g c = wrote_prefix _ _ _ _ c.from_residual.ensures.0 (prefix_before _ _ _ (codes "\n") c.in_err-put_comma_values.ensures)

pub returns : goal.returns
returns g c = wrote_whole _ _ _ _ _ _ c.in_ok-put_comma_values.ensures c.put.ensures
