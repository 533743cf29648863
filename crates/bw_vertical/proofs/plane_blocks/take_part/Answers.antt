use Rattle.std.proofs.Common.{[], ap, arith, get_or, get_or-set_other, get_or-set_same, inl, inr, length, ◌*◌, ◌+◌, ◌-◌, ◌<◌, ◌∙◌}
use mathlib.Core.Logic.{◌≢◌}
use Rattle.std.proofs.lemmas.Bool.{cases_eq}
use Rattle.std.proofs.lemmas.List.{length-set}
use Rattle.bw_vertical.proofs.plane_blocks.take_part.Goals as goal

pub loop-i-preserved : goal.loop-i-preserved
loop-i-preserved c =
    let block = c.loop-i.block in
    let i = c.loop-i.i in
    let b = c.args.top - i in
    let words = c.take_plane.new.words in
    let inv = c.loop-i.invariant in
    let step = c.take_plane.ensures in
    let there : b < length block = omega (arith, c.requires.inside, inv.long) in
    record {
      long = length-set block b words ∙ inv.long;
      taken = λ p w h l.
          elim (cases_eq p i) [
            | inl e ↦ rw e (ap (λ xs. get_or xs (4 * c.args.s + w) 0) (get_or-set_same block b words [] there) ∙ step.taken w l)
            | inr d ↦
                let far : c.args.top - p ≢ b = λ e. d (omega (arith, e, h, c.requires.top, c.loop-i-test.true)) in
                ap (λ xs. get_or xs (4 * c.args.s + w) 0) (get_or-set_other block b (c.args.top - p) words [] far) ∙ inv.taken p w (omega (arith, h, d)) l
          ];
      above = λ p w h.
          let far : p ≢ b = λ e. omega (arith, e, h) in
          ap (λ xs. get_or xs w 0) (get_or-set_other block b p words [] far) ∙ inv.above p w h;
      others = λ p w away.
          elim (cases_eq p b) [
            | inl e ↦ rw e (ap (λ xs. get_or xs w 0) (get_or-set_same block b words [] there) ∙ step.others w away ∙ inv.others b w away)
            | inr d ↦ ap (λ xs. get_or xs w 0) (get_or-set_other block b p words [] d) ∙ inv.others p w away
          ];
    }
