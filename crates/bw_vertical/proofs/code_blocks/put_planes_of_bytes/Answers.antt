use Rattle.std.proofs.Common.{[], ap, arith, get_or, get_or-set_other, get_or-set_same, inl, inr, length, ◌+◌, ◌-◌, ◌<◌, ◌∙◌}
use mathlib.Core.Logic.{◌≢◌}
use Rattle.std.proofs.lemmas.Bool.{cases_eq}
use Rattle.std.proofs.lemmas.List.{length-set}
use Rattle.bw_mask.specs.Masks.{bit_of}
use Rattle.bw_vertical.proofs.code_blocks.put_planes_of_bytes.Goals as goal
use Rattle.bw_vertical.proofs.code_blocks.put_planes_of_bytes.Goals.{else-spare-low, then-spare-low}

pub loop-t-preserved : goal.loop-t-preserved
loop-t-preserved c =
    let t = c.loop-t.t in
    let j = c.args.j in
    let low = c.args.low in
    let spare = c.args.spare in
    let block = c.loop-t.block in
    let inv = c.loop-t.invariant in
    let less = c.loop-t-test.true in
    elim c.if-spare-low.branch [
      | then-spare-low w ↦
          let p = c.args.low + t - spare in
          let plane = w.put_word.new.plane in
          let step = w.put_word.ensures in
          let is = w.if-spare-low.true in
          let there : c.args.low + t - spare < length block = omega (arith, inv.long, c.requires.inside, less, is) in
          rw w.block-is (record {
            long = length-set block p plane ∙ inv.long;
            put = λ u r h s l.
                elim (cases_eq u t) [
                  | inl e ↦ rw e (ap (λ xs. bit_of (get_or xs j 0) r) (get_or-set_same block p plane [] there) ∙ ap (λ v. bit_of v r) step.here ∙ w.rows_with_bit.ensures r l)
                  | inr d ↦
                      let far : c.args.low + u - spare ≢ c.args.low + t - spare = λ e. d (omega (arith, e, s, is)) in
                      ap (λ xs. bit_of (get_or xs j 0) r) (get_or-set_other block p (c.args.low + u - spare) plane [] far) ∙ inv.put u r (omega (arith, h, d)) s l
                ];
            others = λ b m far.
                elim (cases_eq b p) [
                  | inl e ↦ rw e (ap (λ xs. get_or xs m 0) (get_or-set_same block p plane [] there) ∙ step.others m far ∙ inv.others p m far)
                  | inr d ↦ ap (λ xs. get_or xs m 0) (get_or-set_other block p b plane [] d) ∙ inv.others b m far
                ];
            away = λ b m out.
                let far : b ≢ c.args.low + t - spare = λ e. omega (arith, out (omega (arith, e, is)), e, is, less) in
                ap (λ xs. get_or xs m 0) (get_or-set_other block p b plane [] far) ∙ inv.away b m out;
          })
      | else-spare-low w ↦
          rw w.block-is (record {
            long = inv.long;
            put = λ u r h s l. inv.put u r (omega (arith, h, s, w.if-spare-low.false)) s l;
            others = inv.others;
            away = inv.away;
          })
    ]
