use Rattle.std.proofs.Common.{◌<◌, length, arith}
use Rattle.bw_shell.proofs.Texts.{wrote_prefix}
use Rattle.bw_shell.proofs.ValueLines.{line_fails, line_fits, line_more, rest_whole}
use Rattle.bw_shell.proofs.lines.put_each_value_line.Goals as goal

pub split_at-requires : goal.split_at-requires
split_at-requires g c =
    let h : 0 < length c.loop-rest.rest.now = grind (arith, c.is_empty.ensures, c.loop-rest-test.true) in
    line_fits _ _ c.loop-rest.invariant.whole h

pub returns-in_err-put_value_line : goal.returns-in_err-put_value_line
returns-in_err-put_value_line g c =
    let h : 0 < length c.loop-rest.rest.now = grind (arith, c.is_empty.ensures, c.loop-rest-test.true) in
    wrote_prefix _ _ _ _ c.from_residual.ensures.0 (line_fails _ _ c.loop-rest.invariant.whole h _ _ _ _ c.split_at.ensures.front c.loop-rest.invariant.written _ c.in_err-put_value_line.ensures)

pub loop-rest-preserved : goal.loop-rest-preserved
loop-rest-preserved g c =
    let h : 0 < length c.loop-rest.rest.now = grind (arith, c.is_empty.ensures, c.loop-rest-test.true) in
    record {
      whole = rest_whole _ _ c.loop-rest.invariant.whole h _ c.split_at.ensures.back;
      written = line_more _ _ c.loop-rest.invariant.whole h _ _ _ _ c.split_at.ensures.front c.loop-rest.invariant.written _ c.split_at.ensures.back _ c.in_ok-put_value_line.ensures;
    }
