use Rattle.std.proofs.Common.{ap, arith, get_or, inl, inr, ◌*◌, ◌-◌, ◌/◌, ◌∙◌}
use mathlib.Core.Logic.{◌≢◌}
use Rattle.std.proofs.lemmas.Bool.{cases_lt}
use Rattle.bw_vertical.specs.Storage.{blended}
use Rattle.bw_vertical.proofs.Placing.{sizes_more}
use Rattle.bw_vertical.proofs.blending.blend_words.Goals as goal

pub whole-preserved : goal.whole-preserved
whole-preserved c =
    let k = c.args.k in
    let w = c.args.w in
    let g = c.whole.g in
    let words = c.args.words.now in
    let inv = c.whole.invariant in
    let step = c.blend_group.ensures in
    record {
      sizes = sizes_more step.sizes inv.sizes;
      put = λ i h l.
          elim (cases_lt i (4 * g)) [
            | inl p ↦ let far : i / 4 ≢ g = λ e. omega (arith, p, e) in step.other i w l (inl far) ∙ inv.put i p l
            | inr p ↦ step.put i l (omega (arith, h, p)) ∙ ap (blended c.args.rows (get_or words (k - 1 - i) 0)) (inv.rest i p l)
          ];
      rest = λ i h l. let far : i / 4 ≢ g = λ e. omega (arith, h, e) in step.other i w l (inl far) ∙ inv.rest i (omega (arith, h)) l;
      other = λ i x h d. step.other i x h (inr d) ∙ inv.other i x h d;
    }

pub last-preserved : goal.last-preserved
last-preserved c =
    let k = c.args.k in
    let w = c.args.w in
    let g = c.last.g in
    let words = c.args.words.now in
    let inv = c.last.invariant in
    let step = c.blend_group-in-last.ensures in
    record {
      sizes = sizes_more step.sizes inv.sizes;
      put = λ i h l.
          elim (cases_lt i (4 * g)) [
            | inl p ↦ let far : i / 4 ≢ g = λ e. omega (arith, p, e) in step.other i w l (inl far) ∙ inv.put i p l
            | inr p ↦ step.put i l (omega (arith, h, p)) ∙ ap (blended c.args.rows (get_or words (k - 1 - i) 0)) (inv.rest i p l)
          ];
      rest = λ i h l. let far : i / 4 ≢ g = λ e. omega (arith, h, e) in step.other i w l (inl far) ∙ inv.rest i (omega (arith, h)) l;
      other = λ i x h d. step.other i x h (inr d) ∙ inv.other i x h d;
    }
