use Rattle.std.proofs.Common.{arith, false, refl, ◌≡◌, ◌∙◌}
use Rattle.bw_code.specs.Units.{some_below}
use Rattle.bw_code.proofs.Reach.{none_at}
use Rattle.bw_mask.specs.Masks.{row_in}
use Rattle.bw_vertical.proofs.Lanes.{no_rows}
use Rattle.bw_vertical.proofs.pair.segment.Goals as goal

pub returns-then-is_empty-clause-rows : goal.returns-then-is_empty-clause-rows
returns-then-is_empty-clause-rows g c j h =
    let none : some_below 256 (row_in c.args.need.now) ≡ false = grind (arith, c.is_empty.ensures, c.if-is_empty.true) in
    no_rows j h ∙ rw (none_at 256 (row_in c.args.need.now) none j h) refl
