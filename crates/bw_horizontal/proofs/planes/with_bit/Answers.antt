use Rattle.std.proofs.Common.{refl, true}
use Rattle.std.proofs.lemmas.Bool.{eq-eqb}
use Rattle.bw_lane.specs.declared.sections.LaneOp.TheVariants.{Eq}
use Rattle.bw_horizontal.proofs.Marks.{bit_delimiters, compared_delimiters}
use Rattle.bw_horizontal.proofs.planes.with_bit.Goals as goal

pub returns : goal.returns
returns c =
    let k = c.args.masks.now.width in
    bit_delimiters k c.args.i c.args.word c.compare-delimiters.result c.requires.bit (compared_delimiters Eq k 0 0 c.compare-delimiters.result (λ x. true) (λ t h. eq-eqb _ _ refl) c.compare-delimiters.ensures)
