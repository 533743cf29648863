use Rattle.bw_engine.proofs.Columns.{once_among, twice_among}
use Rattle.bw_engine.proofs.create.twice_by_search.Goals as goal

pub returns-then-is_among : goal.returns-then-is_among
returns-then-is_among c =
    twice_among c.args.columns.now c.loop-i.i c.index-columns-i.result c.is_among.result c.loop-i-test.true c.index-columns-i.is c.is_among.ensures c.if-is_among.true

pub loop-i-preserved : goal.loop-i-preserved
loop-i-preserved c =
    once_among c.args.columns.now c.loop-i.i c.index-columns-i.result c.is_among.result c.loop-i-test.true c.index-columns-i.is c.is_among.ensures c.if-is_among.false c.loop-i.invariant
