use Rattle.std.proofs.Common.{bit_and, get_or, length, not, replicate, w8, Bool, ℕ, ◌%◌, ◌*◌, ◌==◌, ◌^◌, ◌≡◌, ◌∙◌, ap, arith, sym}
use lib.Lanes.{zip2}
use Rattle.std.proofs.lemmas.List.{length-replicate}
use Rattle.std.proofs.lemmas.Simd.{get_or-replicate, get_or-zip2, length-zip2}
use Rattle.bw_code.proofs.LaneLemmas.{bit_tested, lane_bit}
use Rattle.bw_vertical.proofs.ByteBits.{one_moved_in_a_byte}
use Rattle.bw_vertical.proofs.bytes.rows_with_bit.Goals as goal

pub returns : goal.returns
returns c r h =
    let xs = c.args.bytes.now in
    let bit = 1 * 2 ^ c.args.i % 2 ^ 8 in
    let test : ℕ → ℕ → Bool = λ a b. not (a == b) in
    let long : length xs ≡ 64 = c.told-bytes in
    let lanes : length (zip2 bit_and xs (replicate 64 bit)) ≡ 64 = length-zip2 bit_and xs (replicate 64 bit) (long ∙ sym (length-replicate {A = ℕ} 64 bit)) ∙ long in
    lane_bit w8 test (zip2 bit_and xs (replicate 64 bit)) (replicate 64 0) r lanes (length-replicate {A = ℕ} 64 0) h
    ∙ ap (λ a. test a (get_or (replicate 64 0) r 0)) (get_or-zip2 bit_and xs (replicate 64 bit) r 0 0 0 (omega (arith, long, h)) (omega (arith, length-replicate {A = ℕ} 64 bit, h)))
    ∙ ap (λ y. test (bit_and (get_or xs r 0) y) (get_or (replicate 64 0) r 0)) (get_or-replicate 64 r bit 0 h)
    ∙ ap (test (bit_and (get_or xs r 0) bit)) (get_or-replicate 64 r 0 0 h)
    ∙ ap (λ y. not (bit_and (get_or xs r 0) y == 0)) (one_moved_in_a_byte c.args.i c.requires) ∙ bit_tested (get_or xs r 0) c.args.i
