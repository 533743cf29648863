use Rattle.std.proofs.Common.{[], ap, arith, get_or, inl, inr, ◌%◌, ◌*◌, ◌+◌, ◌-◌, ◌/◌, ◌<◌, ◌≡◌, ◌∙◌}
use mathlib.Core.Logic.{◌≢◌}
use Rattle.std.proofs.lemmas.Bool.{cases_lt}
use Rattle.bw_mask.specs.Masks.{bit_of}
use Rattle.bw_vertical.proofs.CodeRuns.{number_of_run}
use Rattle.bw_byteslice.proofs.plane_blocks.take_slice.Goals as goal

pub loop-j-preserved : goal.loop-j-preserved
loop-j-preserved c =
    let j = c.loop-j.j in
    let w = c.args.w in
    let low = c.args.low in
    let spare = c.args.spare in
    let slice = c.args.slice.now in
    let block = c.take_bytes.new.block in
    let inv = c.loop-j.invariant in
    let step = c.take_bytes.ensures in
    record {
      taken = λ t r h s l.
          elim (cases_lt r (64 * j)) [
            | inl before ↦
                let far : r / 64 ≢ j = λ e. omega (arith, e, before) in
                ap (λ x. bit_of x (r % 64)) (step.others (low + t - spare) (r / 64) far) ∙ inv.taken t r h s before
            | inr here ↦
                let is : r / 64 ≡ j = omega (arith, here, l) in
                let row : r % 64 < 64 = omega arith in
                let place : 64 * (w + j) + r % 64 ≡ 64 * w + r = omega (arith, is) in
                ap (λ q. bit_of (get_or (get_or block (low + t - spare) []) q 0) (r % 64)) is
                ∙ step.put t (r % 64) h s row
                ∙ ap (λ x. bit_of x t) (number_of_run slice (w + j) c.min-from.result c.min-end.result (r % 64) c.min-from.ensures c.min-end.ensures row)
                ∙ ap (λ q. bit_of (get_or slice q 0) t) place
          ];
      away = λ b m far. step.away b m far ∙ inv.away b m far;
    }

pub returns-clause-taken : goal.returns-clause-taken
returns-clause-taken c t r h s l = c.loop-j.invariant.taken t r h s (omega (arith, l, c.loop-j-test.false))
