use Rattle.bw_column.specs.Values.{IsNullOrHeld}
use Rattle.bw_table.proofs.Held.{slots_down}
use Rattle.bw_table.proofs.slots.Slots.append_compact.Goals as goal

-- nothing is chosen: each value lies where it did
pub rebuilt-requires : goal.rebuilt-requires
rebuilt-requires c = λ k l low. slots_down IsNullOrHeld c.args.self.now.layouts c.args.self.now.slots c.width-held.ensures.held k l low
