use Rattle.std.proofs.Common.{ap, arith, get_or, ◌%◌, ◌*◌, ◌+◌, ◌/◌, ◌≡◌, ◌∙◌}
use Rattle.std.proofs.lemmas.Simd.{get_or-chunk}
use Rattle.bw_mask.specs.Masks.{bit_of}
use Rattle.bw_aggregate.proofs.rows.rows_at.Goals as goal

pub returns-then-first-words : goal.returns-then-first-words
returns-then-first-words c j h =
    let words = c.args.words.now in
    let word : 4 * c.args.q + j / 64 ≡ (256 * c.args.q + j) / 64 = omega arith in
    let place : j % 64 ≡ (256 * c.args.q + j) % 64 = omega arith in
    ap (λ w. bit_of w (j % 64)) (get_or-chunk (4 * c.args.q) 4 words (j / 64) 0 (omega arith))
    ∙ ap (λ k. bit_of (get_or words k 0) (j % 64)) word
    ∙ ap (bit_of (get_or words ((256 * c.args.q + j) / 64) 0)) place
