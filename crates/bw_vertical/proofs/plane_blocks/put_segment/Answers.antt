use Rattle.std.proofs.Common.{arith, inl, inr, ◌*◌, ◌+◌, ◌/◌, ◌∙◌}
use mathlib.Core.Logic.{◌≢◌}
use Rattle.std.proofs.lemmas.Bool.{cases_lt}
use Rattle.bw_vertical.proofs.Placing.{sizes_more}
use Rattle.bw_vertical.proofs.plane_blocks.put_segment.Goals as goal

pub whole-preserved : goal.whole-preserved
whole-preserved c =
    let q = c.args.q in
    let g = c.whole.g in
    let inv = c.whole.invariant in
    let step = c.put_group.ensures in
    record {
      sizes = sizes_more step.sizes inv.sizes;
      put = λ i w h l low.
          elim (cases_lt i (4 * g)) [
            | inl p ↦ let far : i / 4 ≢ g = λ e. omega (arith, p, e) in step.other i (4 * q + w) l (inl far) ∙ inv.put i w p l low
            | inr p ↦ step.put i w l (omega (arith, h, p)) low
          ];
      other = λ i v h d. step.other i v h (inr d) ∙ inv.other i v h d;
    }

pub last-preserved : goal.last-preserved
last-preserved c =
    let q = c.args.q in
    let g = c.last.g in
    let inv = c.last.invariant in
    let step = c.put_group-in-last.ensures in
    record {
      sizes = sizes_more step.sizes inv.sizes;
      put = λ i w h l low.
          elim (cases_lt i (4 * g)) [
            | inl p ↦ let far : i / 4 ≢ g = λ e. omega (arith, p, e) in step.other i (4 * q + w) l (inl far) ∙ inv.put i w p l low
            | inr p ↦ step.put i w l (omega (arith, h, p)) low
          ];
      other = λ i v h d. step.other i v h (inr d) ∙ inv.other i v h d;
    }
