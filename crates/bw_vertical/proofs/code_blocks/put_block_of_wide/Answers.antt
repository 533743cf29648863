use Rattle.std.proofs.Common.{[], ap, arith, get_or, inl, inr, ◌%◌, ◌*◌, ◌+◌, ◌/◌, ◌<◌, ◌≡◌, ◌∙◌}
use mathlib.Core.Logic.{◌≢◌}
use Rattle.std.proofs.lemmas.Bool.{cases_lt}
use Rattle.bw_mask.specs.Masks.{bit_of}
use Rattle.bw_vertical.proofs.CodeRuns.{number_of_run}
use Rattle.bw_vertical.proofs.code_blocks.put_block_of_wide.Goals as goal

pub loop-j-preserved : goal.loop-j-preserved
loop-j-preserved c b r h l =
    let j = c.loop-j.j in
    let codes = c.args.codes.now in
    let block = c.put_word_of_wide.new.block in
    let put = c.put_word_of_wide.ensures in
    elim (cases_lt r (64 * j)) [
      | inl before ↦
          let far : r / 64 ≢ j = λ e. omega (arith, e, before) in
          ap (λ w. bit_of w (r % 64)) (put.others b (r / 64) far) ∙ c.loop-j.invariant b r h before
      | inr here ↦
          let is : r / 64 ≡ j = omega (arith, here, l) in
          let low : r % 64 < 64 = omega arith in
          let place : 64 * j + r % 64 ≡ r = omega (arith, is) in
          ap (λ q. bit_of (get_or (get_or block b []) q 0) (r % 64)) is
          ∙ put.put b (r % 64) h low
          ∙ ap (λ x. bit_of x b) (number_of_run codes j c.min-from.result c.min-end.result (r % 64) c.min-from.ensures c.min-end.ensures low)
          ∙ ap (λ q. bit_of (get_or codes q 0) b) place
    ]

pub returns : goal.returns
returns c b r h l = c.loop-j.invariant b r h (omega (arith, l, c.loop-j-test.false))
