use Rattle.bw_lane.proofs.Codes.{placed_by_shift, placed_stored, sections_of_placed}
use Rattle.bw_lane.proofs.sections.SectionMasks.with_code.Goals as goal

pub returns-clause-stored : goal.returns-clause-stored
returns-clause-stored c =
    let k = c.args.self.now.width in
    rw (c.code.ensures, placed_by_shift k c.args.t c.args.word c.args.c c.requires.code c.requires.place)
    (placed_stored k c.args.t c.args.word c.args.c c.requires.code c.requires.place c.requires.word_stored)

pub returns-clause-codes : goal.returns-clause-codes
returns-clause-codes c =
    let k = c.args.self.now.width in
    rw (c.code.ensures, placed_by_shift k c.args.t c.args.word c.args.c c.requires.code c.requires.place)
    (sections_of_placed k c.args.t c.args.word c.args.c c.requires.code)
