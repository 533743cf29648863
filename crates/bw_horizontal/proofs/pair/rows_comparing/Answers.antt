use Rattle.std.proofs.Common.{arith, subst, sym, ◌*◌, ◌+◌, ◌<◌, length, ◌∙◌}
use Rattle.bw_lane.specs.Sections.{IsStored}
use Rattle.bw_horizontal.proofs.Marks.{unit_is}
use Rattle.bw_horizontal.proofs.Pairs.{pair_all, pair_joined}
use Rattle.bw_horizontal.proofs.pair.rows_comparing.Goals as goal

pub compare-requires-clause-x_stored : goal.compare-requires-clause-x_stored
compare-requires-clause-x_stored g c =
    let i = c.args.q * (c.args.masks.now.width + 1) + c.loop-i.i in
    let low : i < length (g.A.Source.units c.args.a.now) = omega (arith, c.requires.there, c.loop-i-test.true) in
    subst (IsStored c.args.masks.now.width) (sym (unit_is _ _ i _ low c.loop-i.invariant.units c.read-x.ensures.unit)) (c.requires.stored i 0 low)

pub compare-requires-clause-y_stored : goal.compare-requires-clause-y_stored
compare-requires-clause-y_stored g c =
    let i = c.args.q * (c.args.masks.now.width + 1) + c.loop-i.i in
    let low : i < length (g.B.Source.units c.args.b.now) = omega (arith, c.requires.other_there, c.loop-i-test.true) in
    subst (IsStored c.args.masks.now.width) (sym (unit_is _ _ i _ low c.loop-i.invariant.other_units c.read-y.ensures.unit)) (c.requires.other_stored i 0 low)

pub loop-i-preserved : goal.loop-i-preserved
loop-i-preserved g c =
    let i = c.args.q * (c.args.masks.now.width + 1) + c.loop-i.i in
    let low : i < length (g.A.Source.units c.args.a.now) = omega (arith, c.requires.there, c.loop-i-test.true) in
    let other_low : i < length (g.B.Source.units c.args.b.now) = omega (arith, c.requires.other_there, c.loop-i-test.true) in
    record {
      units = c.read-x.ensures.units ∙ c.loop-i.invariant.units;
      other_units = c.read-y.ensures.units ∙ c.loop-i.invariant.other_units;
      reads = omega (arith, c.read-x.ensures.reads, c.loop-i.invariant.reads);
      other_reads = omega (arith, c.read-y.ensures.reads, c.loop-i.invariant.other_reads);
      rows = pair_joined c.args.op c.args.masks.now.width c.args.q c.loop-i.i c.loop-i.rows _ _ c.read-x.result c.read-y.result c.compare.result (omega arith)
          (unit_is _ _ i _ low c.loop-i.invariant.units c.read-x.ensures.unit) (unit_is _ _ i _ other_low c.loop-i.invariant.other_units c.read-y.ensures.unit) c.compare.ensures c.loop-i.invariant.rows;
    }

pub returns-clause-rows : goal.returns-clause-rows
returns-clause-rows g c = pair_all c.args.op c.args.masks.now.width c.args.q c.loop-i.i c.loop-i.rows _ _ (omega arith) c.loop-i.invariant.rows
