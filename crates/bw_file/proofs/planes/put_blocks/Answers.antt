use Rattle.std.proofs.Common.{[], ap, arith, get_or, inl, inr, sym, ◌+◌, ◌-◌, ◌==◌, ◌∙◌}
use Rattle.std.proofs.lemmas.Bool.{cases_eq}
use Rattle.bw_mask.specs.Masks.{row_in}
use Rattle.bw_file.specs.Planes.{plane_bit}
use Rattle.bw_file.proofs.planes.put_blocks.Goals as goal

pub loop-p-preserved : goal.loop-p-preserved
loop-p-preserved c =
    let k = c.args.k in
    let at = c.args.at in
    let p = c.loop-p.p in
    let inv = c.loop-p.invariant in
    let one = c.put_run.ensures in
    let two = c.put_run-in-loop-p.ensures in
    record {
      len = two.len ∙ one.len ∙ inv.len;
      small = two.small;
      first = λ q i h l m b.
          ap (λ x. x == 1) (two.outside q i l (λ e high. absurd (omega (arith, high, b))))
          ∙ elim (cases_eq q p) [
            | inl e ↦ ap (λ r. plane_bit c.args.size c.put_run.new.planes r i == 1) e ∙ one.inside i l m b ∙ ap (λ r. row_in (get_or c.args.first.now (k - 1 - r) []) (i - at)) (sym e)
            | inr d ↦ ap (λ x. x == 1) (one.outside q i l (λ e. absurd (d e))) ∙ inv.first q i (omega (arith, h, d)) l m b
          ];
      second = λ q i h l m b.
          elim (cases_eq q p) [
            | inl e ↦
                ap (λ r. plane_bit c.args.size c.put_run-in-loop-p.new.planes r i == 1) e ∙ two.inside i l m (omega (arith, b))
                ∙ ap (λ r. row_in (get_or c.args.second.now (k - 1 - r) []) (i - (at + 2048))) (sym e)
            | inr d ↦
                ap (λ x. x == 1) (two.outside q i l (λ e. absurd (d e)) ∙ one.outside q i l (λ e. absurd (d e)))
                ∙ inv.second q i (omega (arith, h, d)) l m b
          ];
      outside = λ q i h l apart.
          two.outside q i l (λ e high. let past = apart (omega (arith, e)) (omega (arith, high)) in omega (arith, past))
          ∙ one.outside q i l (λ e high. let past = apart (omega (arith, e)) high in omega (arith, past))
          ∙ inv.outside q i h l (λ less. apart (omega (arith, less)));
    }
