use Rattle.std.proofs.Common.{arith, inl, inr, refl, ◌*◌, ◌-◌, ◌∙◌}
use Rattle.std.proofs.lemmas.Bool.{cases_lt}
use Rattle.bw_vertical.proofs.storage.take_planes.Goals as goal

pub whole-init : goal.whole-init
whole-init c = record { planes = λ i h l. absurd (omega (arith, h)); rest = λ b h. refl; long = refl }

pub whole-preserved : goal.whole-preserved
whole-preserved c =
    let k = c.args.k in
    let g = c.whole.g in
    let inv = c.whole.invariant in
    record {
      planes = λ i h l.
          elim (cases_lt i (4 * g)) [
            | inl p ↦ c.take_group.ensures.above (k - 1 - i) (omega (arith, p, l)) ∙ inv.planes i p l
            | inr p ↦ c.take_group.ensures.taken i l (omega (arith, h, p))
          ];
      rest = λ b h. c.take_group.ensures.above b (omega (arith, h)) ∙ inv.rest b h;
      long = c.take_group.ensures.long ∙ inv.long;
    }

pub last-preserved : goal.last-preserved
last-preserved c =
    let k = c.args.k in
    let g = c.last.g in
    let inv = c.last.invariant in
    record {
      planes = λ i h l.
          elim (cases_lt i (4 * g)) [
            | inl p ↦ c.take_group-in-last.ensures.above (k - 1 - i) (omega (arith, p, l)) ∙ inv.planes i p l
            | inr p ↦ c.take_group-in-last.ensures.taken i l (omega (arith, h, p))
          ];
      rest = λ b h. c.take_group-in-last.ensures.above b (omega (arith, h)) ∙ inv.rest b h;
      long = c.take_group-in-last.ensures.long ∙ inv.long;
    }
