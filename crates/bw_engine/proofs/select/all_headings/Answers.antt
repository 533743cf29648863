use Rattle.std.proofs.Common.{arith}
use Rattle.bw_engine.proofs.Shows.{all_headings_are, next_heading}
use Rattle.bw_engine.proofs.select.all_headings.Goals as goal

pub loop-i-preserved : goal.loop-i-preserved
loop-i-preserved c =
    next_heading c.args.headers.now c.loop-i.i c.loop-i.headings.items _ c.name.result.now (omega (arith, c.loop-i-test.true, c.len-i-end.ensures.count)) c.loop-i.invariant
    c.name.ensures (rw c.in_ok-try_clone.ensures at c.in_ok-push.ensures.items)

pub returns : goal.returns
returns c = all_headings_are c.args.headers.now c.loop-i.i c.loop-i.headings.items (omega (arith, c.loop-i-test.false, c.len-i-end.ensures.count)) c.loop-i.invariant
