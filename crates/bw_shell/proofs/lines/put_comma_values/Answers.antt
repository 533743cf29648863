use Rattle.std.proofs.Common.{None, get_or}
use Rattle.std.proofs.lemmas.List.{get_or_default}
use Rattle.bw_shell.specs.ValueTexts.{value_text}
use Rattle.bw_shell.proofs.Items.{comma_fails, first_fails, first_written, item_fails, item_more}
use Rattle.bw_shell.proofs.Texts.{wrote_prefix}
use Rattle.bw_shell.proofs.lines.put_comma_values.Goals as goal

pub returns-in_err-put_value : goal.returns-in_err-put_value
returns-in_err-put_value g c =
    let values = c.args.values.now in
    let here = get_or_default values 0 None (get_or values 0 None) c.in-len1-up.len_at_least in
    wrote_prefix _ _ _ _ c.from_residual.ensures.0 (first_fails value_text _ _ values _ c.in-len1-up.len_at_least here c.in_err-put_value.ensures)

pub loop-value-init : goal.loop-value-init
loop-value-init g c =
    let values = c.args.values.now in
    let here = get_or_default values 0 None (get_or values 0 None) c.in-len1-up.len_at_least in
    first_written value_text _ _ values _ c.in-len1-up.len_at_least here c.in_ok-put_value.ensures

pub returns-in_err-put : goal.returns-in_err-put
returns-in_err-put g c =
    wrote_prefix _ _ _ _ c.from_residual-in_err-put.ensures.0
    (comma_fails value_text _ _ _ _ _ _ c.loop-value-test.true (get_or_default _ c.loop-value.value-index None _ c.loop-value-test.true) c.loop-value.invariant _ c.in_err-put.ensures)

pub returns-in_err-put_value-2 : goal.returns-in_err-put_value-2
returns-in_err-put_value-2 g c =
    wrote_prefix _ _ _ _ c.from_residual-in_err-put_value-2.ensures.0
    (item_fails value_text _ _ _ _ _ _ c.loop-value-test.true (get_or_default _ c.loop-value.value-index None _ c.loop-value-test.true) c.loop-value.invariant _ _ c.in_ok-put.ensures c.in_err-put_value-2.ensures)

pub loop-value-preserved : goal.loop-value-preserved
loop-value-preserved g c =
    item_more value_text _ _ _ _ _ _ c.loop-value-test.true (get_or_default _ c.loop-value.value-index None _ c.loop-value-test.true) c.loop-value.invariant _ _ c.in_ok-put.ensures c.in_ok-put_value-2.ensures
