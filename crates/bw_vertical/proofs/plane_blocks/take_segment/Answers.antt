use Rattle.std.proofs.Common.{arith, inl, inr, ◌*◌, ◌+◌, ◌-◌, ◌∙◌}
use Rattle.std.proofs.lemmas.Bool.{cases_lt}
use Rattle.bw_vertical.proofs.plane_blocks.take_segment.Goals as goal

pub whole-preserved : goal.whole-preserved
whole-preserved c =
    let k = c.args.k in
    let g = c.whole.g in
    let inv = c.whole.invariant in
    let step = c.take_group.ensures in
    record {
      taken = λ i w h l low.
          elim (cases_lt i (4 * g)) [
            | inl p ↦ step.above (k - 1 - i) (4 * c.args.s + w) (omega (arith, p, l)) ∙ inv.taken i w p l low
            | inr p ↦ step.taken i w l (omega (arith, h, p)) low
          ];
      others = λ b w away. step.others b w away ∙ inv.others b w away;
      rest = λ b w h. step.above b w (omega (arith, h)) ∙ inv.rest b w h;
    }

pub last-preserved : goal.last-preserved
last-preserved c =
    let k = c.args.k in
    let g = c.last.g in
    let inv = c.last.invariant in
    let step = c.take_group-in-last.ensures in
    record {
      taken = λ i w h l low.
          elim (cases_lt i (4 * g)) [
            | inl p ↦ step.above (k - 1 - i) (4 * c.args.s + w) (omega (arith, p, l)) ∙ inv.taken i w p l low
            | inr p ↦ step.taken i w l (omega (arith, h, p)) low
          ];
      others = λ b w away. step.others b w away ∙ inv.others b w away;
      rest = λ b w h. step.above b w (omega (arith, h)) ∙ inv.rest b w h;
    }
