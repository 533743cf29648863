use Rattle.std.proofs.Common.{ap, arith, inl, inr, length-set, refl, ◌==◌, ◌∙◌}
use Rattle.std.proofs.lemmas.Bool.{cases_eq}
use Rattle.std.proofs.lemmas.List.{get_or-set_other, get_or-set_same}
use Rattle.bw_vertical.proofs.runs.equal_words.Goals as goal

pub loop-b-preserved : goal.loop-b-preserved
loop-b-preserved c =
    let words = c.loop-b.words in
    let now = c.loop-b.b in
    let word = c.rows_where.result in
    let inv = c.loop-b.invariant in
    record {
      long = length-set words now word ∙ inv.long;
      words = λ b r h l in_.
          elim (cases_eq b now) [
            | inl e ↦ rw (e, get_or-set_same words now word 0 (omega (arith, inv.long, c.requires.narrow, c.loop-b-test.true))) (ap (λ x. x == 1) (c.rows_where.ensures r l) ∙ rw in_ refl)
            | inr d ↦ rw (get_or-set_other words now b word 0 d) (inv.words b r (omega (arith, h, d)) l in_)
          ];
    }
