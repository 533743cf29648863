use Rattle.std.proofs.Common.{ap, length, sym, ◌∙◌}
use Rattle.bw_engine.proofs.LiveValues.{masked_long}
use Rattle.bw_engine.proofs.live_ends.LiveOrNullCells.len.Goals as goal

pub returns : goal.returns
returns c = c.len.ensures.count ∙ sym (masked_long c.self.inside.live.now c.self.inside.column.now.values) ∙ ap length c.self.view_is
