use Rattle.bw_column.specs.Values.{IsNullOrHeld}
use Rattle.bw_table.proofs.Held.{all_in_mask}
use Rattle.bw_table.proofs.taking.make_ready.Goals as goal

pub room_to_copy-requires-clause-held : goal.room_to_copy-requires-clause-held
room_to_copy-requires-clause-held c =
    let fits = rw c.in-Copied.is at c.requires.fits in
    let held = rw c.in-Copied.is at c.requires.held in
    all_in_mask (IsNullOrHeld c.args.column.now.layout) tt c.args.mask.now c.in-Copied.copy.values fits.1 held
