use Rattle.std.proofs.Common.{ap, arith, bit_and, get_or, length, not, replicate, sym, ◌%◌, ◌*◌, ◌==◌, ◌^◌, ◌≡◌, ◌≤◌, ◌∙◌}
use lib.Lanes.{zip2}
use Rattle.std.proofs.Math.Pow.{pow_mono}
use Rattle.std.proofs.lemmas.Simd.{get_or-replicate, get_or-zip2, length-zip2}
use Rattle.bw_lane.proofs.Bits.{bit_of_mask}
use Rattle.bw_code.proofs.LaneLemmas.{bit_tested}
use Rattle.bw_byteslice.proofs.Words.{low_bit}
use Rattle.bw_byteslice.proofs.plane.rows_with_bit.Goals as goal

pub returns : goal.returns
returns c r h =
    let xs = c.args.bytes.now in
    let i = c.args.i in
    let bit = 1 * 2 ^ i % 256 in
    let masked = zip2 bit_and xs (replicate 32 bit) in
    let top : 2 ^ i ≤ 2 ^ 7 = pow_mono {i = i} {j = 7} (omega arith) in
    let one : bit ≡ 2 ^ i = omega (arith, top) in
    let long : length masked ≡ 32 = length-zip2 bit_and xs (replicate 32 bit) c.told-bytes ∙ c.told-bytes in
    let lane : get_or masked r 0 ≡ bit_and (get_or xs r 0) bit =
    get_or-zip2 bit_and xs (replicate 32 bit) r 0 0 0 (omega (arith, c.told-bytes)) (omega arith) ∙ ap (bit_and (get_or xs r 0)) (get_or-replicate 32 r bit 0 h) in
    sym (low_bit _ r h)
    ∙ bit_of_mask (λ a b. not (a == b)) masked 0 long r h
    ∙ ap (λ x. not (x == 0)) (lane ∙ ap (bit_and (get_or xs r 0)) one)
    ∙ bit_tested (get_or xs r 0) i
