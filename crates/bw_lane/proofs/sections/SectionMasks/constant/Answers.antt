use Rattle.std.proofs.Common.{arith}
use Rattle.bw_lane.proofs.Kernels.{filled, filled_stored, filled_fits}
use Rattle.bw_lane.specs.Sections.{sections_in}
use Rattle.bw_lane.proofs.sections.SectionMasks.constant.Goals as goal

pub overflow_mul-result : goal.overflow_mul-result
overflow_mul-result c =
    let s = c.args.self.now in
    let fits = filled_fits s.width c.args.c c.requires in
    rw (s.lowest_is, c.from.ensures) (omega arith)

pub returns-clause-stored : goal.returns-clause-stored
returns-clause-stored c = let s = c.args.self.now in rw (s.lowest_is, c.from.ensures) (filled_stored s.width c.args.c c.requires)

pub returns-clause-each : goal.returns-clause-each
returns-clause-each c = let s = c.args.self.now in rw (s.lowest_is, c.from.ensures) ((filled s.width c.args.c c.requires (sections_in s.width)).each)
