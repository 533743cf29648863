use Rattle.std.proofs.Common.{ap, ◌&&◌, ◌∙◌}
use Rattle.bw_mask.specs.Masks.{bit_of}
use Rattle.bw_mask.proofs.Bits.{bit_of_and}
use Rattle.bw_code.proofs.wide_pair.chosen.Goals as goal

pub returns-else-needed-eq0 : goal.returns-else-needed-eq0
returns-else-needed-eq0 c i h = bit_of_and c.args.needed c.compared_rows.result i ∙ ap (λ b. bit_of c.args.needed i && b) (c.compared_rows.ensures i h)
