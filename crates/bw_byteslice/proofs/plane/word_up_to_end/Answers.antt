use Rattle.std.proofs.Common.{ap, arith, get_or, ℕ, ◌*◌, ◌+◌, ◌≡◌, ◌≤◌, ◌∙◌, length}
use Rattle.bw_mask.specs.Masks.{bit_of}
use Rattle.bw_mask.proofs.Bits.{bit_of_zero}
use Rattle.bw_byteslice.proofs.Planes.{byte_there, half_word}
use Rattle.bw_byteslice.proofs.plane.word_up_to_end.Goals as goal

pub returns-then-w-slice-2-clause-rows : goal.returns-then-w-slice-2-clause-rows
returns-then-w-slice-2-clause-rows c =
    let slice = c.args.slice.now in
    let w = c.args.w in
    let bit = λ (x : ℕ). bit_of x c.args.i in
    let short : length slice ≤ 64 * w + 32 = omega (arith, c.if-w-slice.false, c.requires.whole) in
    let place : 32 * (2 * w) ≡ 64 * w = omega arith in
    half_word slice w c.args.i c.joined.result short
    (λ r h. c.joined.ensures.low r h ∙ c.low_half.ensures r h ∙ c.rows_with_bit.ensures r h ∙ ap bit (byte_there slice c.bytes_at.result (32 * (2 * w)) r c.bytes_at.ensures h ∙ ap (λ n. get_or slice (n + r) 0) place))
    (λ s h. c.joined.ensures.high s h ∙ bit_of_zero s)
