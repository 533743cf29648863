use Rattle.std.proofs.Common.{◌∙◌}
use Rattle.bw_mask.specs.Masks.{row_in}
use Rattle.bw_vertical.proofs.Sums.{compared_more}
use Rattle.bw_vertical.proofs.addition.LowBits.and_plane.Goals as goal

pub returns : goal.returns
returns c j x lift y n h p b q before =
    let next = compared_more (row_in c.args.a.now j) c.args.bit (row_in c.args.b.now j) (row_in c.args.self.carry j) (row_in c.args.self.lt j) (row_in c.args.self.differ j) x lift y n p b q before in
    record {
      carry_is = c.add_const_step.ensures.carry j h ∙ next.carry_is;
      less = c.low_first_step.ensures j h ∙ rw (c.add_const_step.ensures.sum j h) next.less;
      differs = c.either-differ.ensures j h ∙ rw (c.differing.ensures j h, c.add_const_step.ensures.sum j h) next.differs;
    }
