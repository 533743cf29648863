use Rattle.bw_table.proofs.Across.{deleted_slots}
use Rattle.bw_table.proofs.slots.Slots.delete.Goals as goal

pub returns-clause-slots : goal.returns-clause-slots
returns-clause-slots c =
    rw (← c.self.view_is) (deleted_slots c.self.inside.columns.items c.self.inside.live c.andnot_in.new.self c.args.found.now c.andnot_in.ensures.shape.0 c.andnot_in.ensures.rows)
