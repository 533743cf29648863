use Rattle.std.proofs.Common.{ap, arith, refl, take, w8, ◌%◌, ◌/◌, ◌^◌, ◌∙◌}
use Rattle.std.proofs.lemmas.Simd.{below_from_Fits, chunk-fits, get_or_wider}
use Rattle.bw_mask.specs.Masks.{bit_of}
use Rattle.bw_file.proofs.WordBytes.{part_bit}
use Rattle.bw_file.proofs.row_bits.words_in.Goals as goal

pub returns : goal.returns
returns c i h =
    let bytes = c.args.bytes.now in
    let j = i / 64 in
    ap (λ w. bit_of w (i % 64)) (get_or_wider (2 ^ 8) 8 (2 ^ 64) 8 (take 64 bytes) j refl (below_from_Fits w8 (take 64 bytes) (chunk-fits w8 0 64 bytes (λ k. c.type_inv.bytes k))) (omega (arith, h)))
    ∙ part_bit bytes (λ k. omega (arith, c.type_inv.bytes k)) i h
