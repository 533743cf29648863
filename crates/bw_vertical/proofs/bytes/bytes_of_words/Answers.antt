use Rattle.std.proofs.Common.{ap, arith, get_or, ◌%◌, ◌*◌, ◌+◌, ◌/◌, ◌^◌, ◌≡◌, ◌∙◌}
use Rattle.bw_mask.specs.Masks.{bit_of}
use Rattle.bw_mask.proofs.Bits.{bit_of_shr}
use Rattle.bw_vertical.proofs.ByteBits.{low_bit, places_of_bytes}
use Rattle.bw_vertical.proofs.bytes.bytes_of_words.Goals as goal

pub returns-clause-bits : goal.returns-clause-bits
returns-clause-bits c r t h l =
    let x = get_or c.by_rows.result (r / 8) 0 in
    let place : r ≡ 8 * (r / 8) + r % 8 = omega arith in
    let word : (8 * (r % 8) + t) % 8 ≡ t = omega (arith, l) in
    let bit : 8 * (r / 8) + (8 * (r % 8) + t) / 8 ≡ r = omega (arith, l) in
    ap (λ n. bit_of (get_or c.bytes_in.result n 0) t) place
    ∙ ap (λ y. bit_of y t) (c.bytes_in.ensures (r / 8) (r % 8) (omega (arith, h)) (omega arith))
    ∙ low_bit (x / (2 ^ 8) ^ (r % 8)) 8 t l
    ∙ ap (λ p. bit_of (x / p) t) (places_of_bytes (r % 8))
    ∙ bit_of_shr x (8 * (r % 8)) t
    ∙ c.by_rows.ensures (r / 8) (8 * (r % 8) + t) (omega (arith, h)) (omega (arith, l))
    ∙ ap (λ n. bit_of (get_or c.args.words.now n 0) (8 * (r / 8) + (8 * (r % 8) + t) / 8)) word
    ∙ ap (bit_of (get_or c.args.words.now t 0)) bit
