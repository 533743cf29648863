use Rattle.std.proofs.Common.{Bool, ap, arith, false, not, refl, sym, true, ◌≡◌, ◌∙◌}
use Rattle.bw_mask.specs.Masks.{row_in}
use Rattle.bw_code.specs.Units.{some_below}
use Rattle.bw_vertical.proofs.Lanes.{empty_is}
use Rattle.bw_aggregate.proofs.Marks.{marked_some}
use Rattle.bw_aggregate.proofs.rows.has_row.Goals as goal

pub returns : goal.returns
returns c =
    let rows = c.args.rows.now in
    ap not (empty_is rows (λ k. omega (arith, c.type_inv.rows k))) ∙ twice (some_below 256 (row_in rows)) ∙ sym (marked_some 256 (row_in rows))
  where
    twice : (b : Bool) → not (not b) ≡ b
    twice true = refl
    twice false = refl
