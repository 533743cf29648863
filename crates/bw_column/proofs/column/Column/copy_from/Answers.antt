use Rattle.bw_column.specs.Codes.{IsCoded}
use Rattle.bw_column.specs.Values.{IsNullOrHeld}
use Rattle.bw_column.proofs.Masked.{all_of_chosen}
use Rattle.bw_column.proofs.column.Column.copy_from.Goals as goal

pub copy_distances-requires-clause-coded : goal.copy_distances-requires-clause-coded
copy_distances-requires-clause-coded c =
    let is = rw (← c.prepared.view_is) at c.requires.prepared in
    rw c.take.ensures.encoding (all_of_chosen c.args.places.now _ is.masked (IsCoded _) tt is.ready.coded)

pub copy_distances-requires-clause-held : goal.copy_distances-requires-clause-held
copy_distances-requires-clause-held c =
    let is = rw (← c.prepared.view_is) at c.requires.prepared in
    rw (c.take.ensures.layout, is.ready.layout) (all_of_chosen c.args.places.now _ is.masked (IsNullOrHeld _) tt is.ready.held)

pub copy_entries-requires-clause-held : goal.copy_entries-requires-clause-held
copy_entries-requires-clause-held c =
    let is = rw (← c.prepared.view_is) at c.requires.prepared in
    rw (c.take.ensures.layout, is.ready.layout) (all_of_chosen c.args.places.now _ is.masked (IsNullOrHeld _) tt is.ready.held)
