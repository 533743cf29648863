use Rattle.std.proofs.Common.{ap, arith, get_or, ℕ, ◌*◌, ◌+◌, ◌≡◌, ◌∙◌}
use Rattle.bw_mask.specs.Masks.{bit_of}
use Rattle.bw_byteslice.proofs.BitPlanes.{four_words}
use Rattle.bw_byteslice.proofs.plane_source.plane_at.Goals as goal

pub returns : goal.returns
returns c =
    let slice = c.args.slice.now in
    let q = c.args.q in
    let row = λ (n : ℕ). bit_of (get_or slice n 0) c.args.i in
    four_words (λ r. row (256 * q + r)) _ _ _ _ c.word_up_to_end.ensures.fits c.word_up_to_end-2.ensures.fits c.word_up_to_end-3.ensures.fits c.word_up_to_end-4.ensures.fits
    (λ r h. let place : 64 * (4 * q) + r ≡ 256 * q + (64 * 0 + r) = omega arith in c.word_up_to_end.ensures.rows r h ∙ ap row place)
    (λ r h. let place : 64 * (4 * q + 1) + r ≡ 256 * q + (64 * 1 + r) = omega arith in c.word_up_to_end-2.ensures.rows r h ∙ ap row place)
    (λ r h. let place : 64 * (4 * q + 2) + r ≡ 256 * q + (64 * 2 + r) = omega arith in c.word_up_to_end-3.ensures.rows r h ∙ ap row place)
    (λ r h. let place : 64 * (4 * q + 3) + r ≡ 256 * q + (64 * 3 + r) = omega arith in c.word_up_to_end-4.ensures.rows r h ∙ ap row place)
