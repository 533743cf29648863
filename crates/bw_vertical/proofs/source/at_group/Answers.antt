use Rattle.bw_vertical.proofs.Ahead.{all_ahead}
use Rattle.bw_vertical.proofs.source.at_group.Goals as goal

pub next_group-requires-clause-ahead : goal.next_group-requires-clause-ahead
next_group-requires-clause-ahead c = all_ahead c.args.k c.args.g c.args.groups.now c.requires.group c.requires.count
