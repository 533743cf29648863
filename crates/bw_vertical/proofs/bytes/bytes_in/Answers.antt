use Rattle.std.proofs.Common.{ap, arith, refl, take, w64, ◌%◌, ◌/◌, ◌^◌, ◌∙◌}
use Rattle.std.proofs.lemmas.List.{get_or-take}
use Rattle.std.proofs.lemmas.Simd.{below_from_Fits, chunk-fits, get_or_narrower}
use Rattle.bw_vertical.proofs.bytes.bytes_in.Goals as goal

pub returns : goal.returns
returns c q i h l =
    let words = c.args.words.now in
    get_or_narrower (2 ^ 64) 8 (2 ^ 8) 64 (take 8 words) q i refl (below_from_Fits w64 (take 8 words) (chunk-fits w64 0 8 words (λ k. c.type_inv.words k))) l (omega arith)
    ∙ ap (λ x. x / (2 ^ 8) ^ i % 2 ^ 8) (get_or-take 8 words q 0 h)
