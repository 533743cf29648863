use Rattle.std.proofs.Common.{arith}
use Rattle.bw_lane.proofs.Kernels.{at_most_fits_word, at_most}
use Rattle.bw_lane.proofs.sections.SectionMasks.at_most.Goals as goal

pub overflow_add-result : goal.overflow_add-result
overflow_add-result c =
    let s = c.args.self.now in
    let fits = at_most_fits_word s.width c.args.x c.args.y c.requires.x_stored c.requires.y_stored in
    rw s.codes_is (omega arith)

pub overflow_add-result-2 : goal.overflow_add-result-2
overflow_add-result-2 c =
    let s = c.args.self.now in
    let fits = at_most_fits_word s.width c.args.x c.args.y c.requires.x_stored c.requires.y_stored in
    rw (s.codes_is, s.lowest_is) (omega arith)

pub returns : goal.returns
returns c =
    let s = c.args.self.now in
    rw (s.codes_is, s.delimiters_is, s.lowest_is) (at_most s.width c.args.x c.args.y c.requires.x_stored c.requires.y_stored)
