use Rattle.std.proofs.Common.{◌<◌, length, arith}
use Rattle.bw_model.proofs.Commas.{next_line}
use Rattle.bw_model.proofs.Lines.{whole_rest}
use Rattle.bw_model.proofs.texts.lines_text.Goals as goal

pub loop-rest-preserved : goal.loop-rest-preserved
loop-rest-preserved c =
    let some : 0 < length c.loop-rest.rest.now = grind (arith, c.is_empty.ensures, c.loop-rest-test.true) in
    rw (c.split_at.ensures.back, c.in_ok-push.ensures.items, c.in_ok-extend_from_slice.ensures.items, c.deref.ensures.value, c.in_ok-cells_text.ensures, c.split_at.ensures.front)
    record {
      whole = whole_rest c.args.width c.loop-rest.rest.now c.loop-rest.invariant.whole some;
      text = next_line c.args.width c.loop-rest.rest.now c.loop-rest.text.items _ c.loop-rest.invariant.whole some c.loop-rest.invariant.text;
    }
