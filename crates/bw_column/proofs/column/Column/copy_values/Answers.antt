use Rattle.bw_column.proofs.Held.{all_held_by}
use Rattle.bw_column.proofs.column.Column.copy_values.Goals as goal

pub copy_distances-requires-clause-held : goal.copy_distances-requires-clause-held
copy_distances-requires-clause-held c =
    all_held_by c.args.self.now.layout c.args.other.now.layout c.args.other.now.values c.requires.can.layout c.len-held.ensures.held
