use Rattle.bw_lane.proofs.Lanes.{equal_each}
use Rattle.bw_lane.proofs.sections.SectionMasks.equal_lanes.Goals as goal

pub returns : goal.returns
returns c =
    let s = c.args.self.now in
    equal_each s.width s.codes s.delimiters s.lowest s.codes_is s.delimiters_is s.lowest_is c.args.x c.args.y c.fits-x.0 c.fits-y.0 c.requires.x_stored c.requires.y_stored
