use Rattle.std.proofs.Common.{ap, arith, get_or, refl, take, w64, ◌%◌, ◌*◌, ◌+◌, ◌/◌, ◌^◌, ◌≡◌, ◌∙◌}
use Rattle.std.proofs.lemmas.List.{get_or-take}
use Rattle.std.proofs.lemmas.Simd.{below_from_Fits, chunk-fits, get_or_narrower}
use Rattle.bw_mask.specs.Masks.{bit_of}
use Rattle.bw_mask.proofs.Bits.{bit_of_shr}
use Rattle.bw_vertical.proofs.ByteBits.{low_bit, places_of_bytes}
use Rattle.bw_file.proofs.planes.bytes_in.Goals as goal
use lib.Lanes.{digits_l, number_l}

pub returns : goal.returns
returns c i h =
    let words = c.args.words.now in
    let j = i / 64 in
    let b = i % 64 / 8 in
    let w = get_or words j 0 in
    let place : i / 8 ≡ 8 * j + b = omega arith in
    let bit : i % 8 ≡ i % 64 % 8 = omega arith in
    let whole : 8 * b + i % 64 % 8 ≡ i % 64 = omega arith in
    ap (λ n. bit_of (get_or (digits_l (2 ^ 8) 64 (number_l (2 ^ 64) (take 8 words))) n 0) (i % 8)) place
    ∙ ap (λ x. bit_of x (i % 8)) (get_or_narrower (2 ^ 64) 8 (2 ^ 8) 64 (take 8 words) j b refl (below_from_Fits w64 (take 8 words) (chunk-fits w64 0 8 words (λ k. c.type_inv.words k))) (omega arith) (omega (arith, h)))
    ∙ ap (λ x. bit_of (x / (2 ^ 8) ^ b % 2 ^ 8) (i % 8)) (get_or-take 8 words j 0 (omega (arith, h)))
    ∙ low_bit (w / (2 ^ 8) ^ b) 8 (i % 8) (omega arith)
    ∙ ap (λ p. bit_of (w / p) (i % 8)) (places_of_bytes b)
    ∙ bit_of_shr w (8 * b) (i % 8)
    ∙ ap (λ n. bit_of w (8 * b + n)) bit ∙ ap (bit_of w) whole
