use Rattle.std.proofs.Common.{arith}
use Rattle.bw_lane.proofs.Kernels.{less_fits_word, less}
use Rattle.bw_lane.proofs.sections.SectionMasks.less.Goals as goal

pub overflow_add-result : goal.overflow_add-result
overflow_add-result c =
    let s = c.args.self.now in
    let fits = less_fits_word s.width c.args.x c.args.y c.requires.x_stored c.requires.y_stored in
    rw s.codes_is (omega arith)

pub returns : goal.returns
returns c =
    let s = c.args.self.now in
    rw (s.codes_is, s.delimiters_is) (less s.width c.args.x c.args.y c.requires.x_stored c.requires.y_stored)
