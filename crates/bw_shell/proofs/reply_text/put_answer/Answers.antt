use Rattle.bw_shell.proofs.Texts.{appends_twice, prefix_after, prefix_before, wrote_prefix, wrote_whole}
use Rattle.bw_shell.proofs.reply_text.put_answer.Goals as goal

pub returns-in_err-put_headings : goal.returns-in_err-put_headings
returns-in_err-put_headings g c =
    rw (← c.headings-headings.ensures)
    (wrote_prefix _ _ _ _ c.from_residual.ensures.0 (prefix_before _ _ _ _ (prefix_before _ _ _ _ (prefix_before _ _ _ _ c.in_err-put_headings.ensures))))

pub returns-in_err-put : goal.returns-in_err-put
returns-in_err-put g c =
    rw (← c.headings-headings.ensures)
    (wrote_prefix _ _ _ _ c.from_residual-in_err-put.ensures.0 (prefix_before _ _ _ _ (prefix_before _ _ _ _ (prefix_after _ _ _ _ _ c.in_ok-put_headings.ensures c.in_err-put.ensures))))

pub returns-in_err-put_lines : goal.returns-in_err-put_lines
returns-in_err-put_lines g c =
    rw (← c.cells.ensures.lines, ← c.headings-headings.ensures)
    (wrote_prefix _ _ _ _ c.from_residual-in_err-put_lines.ensures.0 (prefix_before _ _ _ _ (prefix_after _ _ _ _ _ (appends_twice _ _ _ _ _ c.in_ok-put_headings.ensures c.in_ok-put.ensures) c.in_err-put_lines.ensures)))

pub returns : goal.returns
returns g c =
    rw (← c.line_count.ensures, ← c.cells.ensures.lines, ← c.headings-headings.ensures)
    (wrote_whole _ _ _ _ _ _ (appends_twice _ _ _ _ _ (appends_twice _ _ _ _ _ c.in_ok-put_headings.ensures c.in_ok-put.ensures) c.in_ok-put_lines.ensures) c.put_count.ensures)
