use Rattle.std.proofs.Common.{◌<◌, length, arith}
use Rattle.bw_shell.proofs.ValueLines.{but_last_text, but_last_whole, last_some, line_fits}
use Rattle.bw_shell.proofs.lines.lines_before.Goals as goal

pub overflow_sub-rest : goal.overflow_sub-rest
overflow_sub-rest c =
    let h : 0 < length c.loop-rest.rest.now = grind (arith, c.is_empty.ensures, c.loop-rest-test.true) in
    line_fits _ _ c.loop-rest.invariant.whole h

pub line_before-requires : goal.line_before-requires
line_before-requires c =
    let h : 0 < length c.loop-rest.rest.now = grind (arith, c.is_empty.ensures, c.loop-rest-test.true) in
    last_some _ _ _ _ c.loop-rest.invariant.whole h c.split_at.ensures.front c.split_at.ensures.back

pub loop-rest-preserved : goal.loop-rest-preserved
loop-rest-preserved c =
    let h : 0 < length c.loop-rest.rest.now = grind (arith, c.is_empty.ensures, c.loop-rest-test.true) in
    record {
      whole = but_last_whole _ _ _ _ c.loop-rest.invariant.whole h c.split_at.ensures.front c.split_at.ensures.back;
      text = but_last_text _ _ _ _ c.loop-rest.invariant.whole h c.split_at.ensures.front c.split_at.ensures.back _ _ _ c.loop-rest.invariant.text c.if-not-line_before.ensures;
    }
