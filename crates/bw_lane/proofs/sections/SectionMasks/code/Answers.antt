use Rattle.std.proofs.Common.{arith}
use Rattle.bw_lane.proofs.Codes.{section_by_mask}
use Rattle.bw_lane.proofs.sections.SectionMasks.code.Goals as goal

pub returns : goal.returns
returns c = let s = c.args.self.now in section_by_mask s.width c.args.t c.args.word (omega arith)
