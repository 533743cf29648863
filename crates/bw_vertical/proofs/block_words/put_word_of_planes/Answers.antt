use Rattle.std.proofs.Common.{[], ap, arith, get_or, get_or-set_other, get_or-set_same, inl, inr, length, ◌<◌, ◌∙◌}
use mathlib.Core.Logic.{◌≢◌}
use Rattle.std.proofs.lemmas.Bool.{cases_eq}
use Rattle.std.proofs.lemmas.List.{length-set}
use Rattle.bw_vertical.proofs.block_words.put_word_of_planes.Goals as goal

pub loop-b-preserved : goal.loop-b-preserved
loop-b-preserved c =
    let p = c.loop-b.b in
    let j = c.args.j in
    let block = c.loop-b.block in
    let plane = c.put_word.new.plane in
    let inv = c.loop-b.invariant in
    let step = c.put_word.ensures in
    let there : p < length block = omega (arith, c.loop-b-test.true, c.requires.narrow, inv.long) in
    record {
      long = length-set block p plane ∙ inv.long;
      written = λ b h.
          elim (cases_eq b p) [
            | inl e ↦ rw e (ap (λ xs. get_or xs j 0) (get_or-set_same block p plane [] there) ∙ step.here)
            | inr d ↦ ap (λ xs. get_or xs j 0) (get_or-set_other block p b plane [] d) ∙ inv.written b (omega (arith, h, d))
          ];
      rest = λ b m h.
          let d : b ≢ p = λ e. omega (arith, e, h) in
          ap (λ xs. get_or xs m 0) (get_or-set_other block p b plane [] d) ∙ inv.rest b m (omega (arith, h));
      others = λ b m far.
          elim (cases_eq b p) [
            | inl e ↦ rw e (ap (λ xs. get_or xs m 0) (get_or-set_same block p plane [] there) ∙ step.others m far ∙ inv.others p m far)
            | inr d ↦ ap (λ xs. get_or xs m 0) (get_or-set_other block p b plane [] d) ∙ inv.others b m far
          ];
    }
