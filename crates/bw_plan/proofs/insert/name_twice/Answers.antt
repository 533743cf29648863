use Rattle.std.proofs.Common.{◌∙◌, sym}
use Rattle.bw_plan.proofs.Names.{once_to, twice_at}
use Rattle.bw_plan.proofs.insert.name_twice.Goals as goal

pub returns-then-contains : goal.returns-then-contains
returns-then-contains c =
    sym (twice_at c.args.names.now c.loop-i.i c.index-names-i.result c.loop-i-test.true c.index-names-i.is (sym c.contains.ensures.value ∙ c.if-contains.true))

pub loop-i-preserved : goal.loop-i-preserved
loop-i-preserved c =
    once_to c.args.names.now c.loop-i.i c.index-names-i.result c.loop-i-test.true c.index-names-i.is c.loop-i.invariant (sym c.contains.ensures.value ∙ c.if-contains.false)
