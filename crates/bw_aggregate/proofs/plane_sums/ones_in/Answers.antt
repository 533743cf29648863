use Rattle.std.proofs.Common.{ap, sym, ◌&&◌, ◌∙◌}
use Rattle.bw_mask.specs.Masks.{row_in}
use Rattle.bw_aggregate.proofs.Marks.{marked_same}
use Rattle.bw_aggregate.proofs.plane_sums.ones_in.Goals as goal

pub returns-then-all-clause-is : goal.returns-then-all-clause-is
returns-then-all-clause-is c =
    c.count_rows.ensures.is
    ∙ marked_same 256 (row_in c.args.plane.now) (λ j. row_in c.args.rows.now j && row_in c.args.plane.now j)
    (λ j h. sym (ap (λ b. b && row_in c.args.plane.now j) (c.requires c.if-all.true j h)))
