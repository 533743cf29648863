use Rattle.std.proofs.Common.{arith}
use Rattle.bw_lane.proofs.Kernels.{unequal_fits_word, equal}
use Rattle.bw_lane.proofs.sections.SectionMasks.equal.Goals as goal

pub overflow_add-result : goal.overflow_add-result
overflow_add-result c =
    let s = c.args.self.now in
    let fits = unequal_fits_word s.width c.args.x c.args.y c.requires.x_stored c.requires.y_stored in
    rw s.codes_is (omega arith)

pub returns : goal.returns
returns c =
    let s = c.args.self.now in
    rw (s.codes_is, s.delimiters_is) (equal s.width c.args.x c.args.y c.requires.x_stored c.requires.y_stored)
