use Rattle.std.proofs.Common.{refl}
use Rattle.bw_engine.proofs.Columns.{once_in, seen_in, twice_in}
use Rattle.bw_engine.proofs.create.twice_by_set.Goals as goal

pub returns-then-not-branch : goal.returns-then-not-branch
returns-then-not-branch c =
    twice_in c.args.columns.now c.loop-column.column-index c.column-item.result c.loop-column.names.keys c.in_ok-insert.field-0 c.loop-column-test.true c.column-item.is c.loop-column.invariant.seen c.in_ok-insert.ensures.added c.if-not-branch.true

pub loop-column-preserved : goal.loop-column-preserved
loop-column-preserved c = record {
  seen = seen_in c.args.columns.now c.loop-column.column-index c.column-item.result c.loop-column.names.keys c.in_ok-insert.field-0 c.loop-column-test.true c.column-item.is c.loop-column.invariant.seen c.in_ok-insert.ensures.added _ refl c.if-not-branch.false c.insert.new.self.keys c.in_ok-insert.ensures.keys;
  distinct = once_in c.args.columns.now c.loop-column.column-index c.column-item.result c.loop-column.names.keys c.in_ok-insert.field-0 c.loop-column-test.true c.column-item.is c.loop-column.invariant.seen c.in_ok-insert.ensures.added c.if-not-branch.false c.loop-column.invariant.distinct;
}
