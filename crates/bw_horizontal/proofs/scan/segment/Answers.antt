use Rattle.std.proofs.Common.{ap, arith, refl, ◌&&◌, ◌∙◌}
use Rattle.std.proofs.lemmas.Bool.{lt-ltb}
use Rattle.bw_mask.proofs.Bits.{bit_of_and}
use Rattle.bw_code.specs.Tests.{meets}
use Rattle.bw_lane.specs.Sections.{on}
use Rattle.bw_horizontal.specs.Words.{segment_rows}
use Rattle.bw_horizontal.proofs.Costs.{cost_none, cost_some}
use Rattle.bw_horizontal.proofs.scan.segment.Goals as goal

pub returns-in_default-clause-reads : goal.returns-in_default-clause-reads
returns-in_default-clause-reads g c =
    rw (cost_none c.args.width c.args.test c.args.need _ c.in_default.not-None c.in_default.not-All c.if-need-eq0.true) (omega arith)

pub returns-in_default-2-clause-reads : goal.returns-in_default-2-clause-reads
returns-in_default-2-clause-reads g c =
    rw (cost_some c.args.width c.args.test c.args.need _ c.in_default.not-None c.in_default.not-All c.if-need-eq0.false c.requires.need) c.rows_asked.ensures.reads

pub returns-in_default-2-clause-rows : goal.returns-in_default-2-clause-rows
returns-in_default-2-clause-rows g c r h =
    bit_of_and c.args.need c.rows_asked.result r
    ∙ ap (λ b. on c.args.need r && b) (c.rows_asked.ensures.rows (meets c.args.test) c.requires.prepared r ∙ rw (lt-ltb r (segment_rows c.args.width) h) refl)

pub returns-in_default-2-clause-clean : goal.returns-in_default-2-clause-clean
returns-in_default-2-clause-clean g c r h = bit_of_and c.args.need c.rows_asked.result r ∙ ap (λ b. b && on c.rows_asked.result r) (c.requires.need r h)
