use Rattle.std.proofs.Common.{[], ap, arith, sym, ◌∙◌}
use Rattle.std.proofs.lemmas.List.{get_or_past}
use Rattle.bw_mask.proofs.Views.{past}
use Rattle.bw_mask.specs.Masks.{row_in}
use Rattle.bw_vertical.proofs.Lanes.{no_rows}
use Rattle.bw_aggregate.proofs.plane.GroupPlane.rows.Goals as goal

pub returns-else-place-self : goal.returns-else-place-self
returns-else-place-self c j h =
    no_rows j h ∙ sym (ap (λ xs. row_in xs j) (get_or_past c.args.self.now.group.now _ [] c.if-place-self.false) ∙ past [] j (omega arith))
