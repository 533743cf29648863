use Rattle.std.proofs.Common.{arith, length, subst, sym, ◌*◌, ◌+◌, ◌<◌, ◌∙◌}
use Rattle.bw_lane.specs.Sections.{IsStored}
use Rattle.bw_horizontal.specs.Words.{AreDelimiters}
use Rattle.bw_horizontal.proofs.Marks.{rows_all, rows_joined, unit_is}
use Rattle.bw_horizontal.proofs.scan.rows_meeting.Goals as goal

pub loop-i-preserved : goal.loop-i-preserved
loop-i-preserved g c =
    let k = c.args.width in
    let i = c.args.q * (k + 1) + c.loop-i.i in
    let low : i < length (g.S.Source.units c.args.source.now) = omega (arith, c.requires.there, c.loop-i-test.true) in
    let is = unit_is _ _ i _ low c.loop-i.invariant.units c.read-word.ensures.unit in
    let stored : IsStored k c.read-word.result = subst (IsStored k) (sym is) (c.requires.stored i 0 low) in
    record {
      units = c.read-word.ensures.units ∙ c.loop-i.invariant.units;
      reads = omega (arith, c.read-word.ensures.reads, c.loop-i.invariant.reads);
      rows = λ passes ready.
          rows_joined k c.args.q c.loop-i.i _ c.read-word.result _ passes _ (omega arith) is (subst (AreDelimiters k passes c.read-word.result) (sym c.marked.ensures) (ready c.read-word.result stored)) (c.loop-i.invariant.rows passes ready);
    }

pub returns-clause-rows : goal.returns-clause-rows
returns-clause-rows g c passes ready = rows_all c.args.width c.args.q c.loop-i.i _ passes _ (omega arith) (c.loop-i.invariant.rows passes ready)
