use Rattle.bw_column.proofs.Raised.{all_raised}
use Rattle.bw_column.proofs.column.Column.moved.Goals as goal

pub raised-requires-clause-raised : goal.raised-requires-clause-raised
raised-requires-clause-raised c = all_raised c.args.self.now.encoding c.args.encoding c.in-Some.place c.args.moves.now c.args.self.now.values (rw c.in-Some.is at c.raised_from-from.ensures.each) c.requires.moved
