use Rattle.std.proofs.Common.{ap, arith, refl, ◌&&◌, ◌∙◌}
use Rattle.std.proofs.lemmas.Bool.{lt-ltb}
use Rattle.bw_mask.proofs.Bits.{bit_of_and}
use Rattle.bw_lane.specs.Sections.{on}
use Rattle.bw_horizontal.specs.Words.{segment_rows}
use Rattle.bw_horizontal.proofs.Costs.{words_all, words_none}
use Rattle.bw_horizontal.proofs.pair.segment.Goals as goal

pub returns-then-need-eq0-clause-reads : goal.returns-then-need-eq0-clause-reads
returns-then-need-eq0-clause-reads g c = rw (words_none c.args.masks.now.width c.args.need (λ r. 0) c.if-need-eq0.true) (omega arith)

pub returns-then-need-eq0-clause-other_reads : goal.returns-then-need-eq0-clause-other_reads
returns-then-need-eq0-clause-other_reads g c = rw (words_none c.args.masks.now.width c.args.need (λ r. 0) c.if-need-eq0.true) (omega arith)

pub returns-clause-reads : goal.returns-clause-reads
returns-clause-reads g c = rw (words_all c.args.masks.now.width c.args.need (λ r. 0) c.if-need-eq0.false c.requires.need) c.rows_comparing.ensures.reads

pub returns-clause-other_reads : goal.returns-clause-other_reads
returns-clause-other_reads g c = rw (words_all c.args.masks.now.width c.args.need (λ r. 0) c.if-need-eq0.false c.requires.need) c.rows_comparing.ensures.other_reads

pub returns-clause-rows : goal.returns-clause-rows
returns-clause-rows g c r h =
    bit_of_and c.args.need c.rows_comparing.result r
    ∙ ap (λ b. on c.args.need r && b) (c.rows_comparing.ensures.rows r ∙ rw (lt-ltb r (segment_rows c.args.masks.now.width) h) refl)

pub returns-clause-clean : goal.returns-clause-clean
returns-clause-clean g c r h = bit_of_and c.args.need c.rows_comparing.result r ∙ ap (λ b. b && on c.rows_comparing.result r) (c.requires.need r h)
