use Rattle.std.proofs.Common.{arith}
use Rattle.bw_plan.proofs.Headings.{all_sources, next_source}
use Rattle.bw_plan.proofs.insert.sources_of.Goals as goal

pub loop-i-preserved : goal.loop-i-preserved
loop-i-preserved c =
    next_source c.args.headers.now c.args.names.now c.loop-i.i c.loop-i.sources.items _ c.name.result.now (omega (arith, c.loop-i-test.true, c.len-i-end.ensures.count)) c.loop-i.invariant
    c.name.ensures (rw c.place_among.ensures at c.in_ok-push.ensures.items)

pub returns : goal.returns
returns c = all_sources c.args.headers.now c.args.names.now c.loop-i.i c.loop-i.sources.items (omega (arith, c.loop-i-test.false, c.len-i-end.ensures.count)) c.loop-i.invariant
