use Rattle.std.proofs.Common.{bit_and, get_or, not, replicate, take, w64, Bool, ℕ, ◌%◌, ◌*◌, ◌==◌, ◌^◌, ◌∙◌, ap}
use lib.Lanes.{zip2}
use Rattle.std.proofs.lemmas.List.{length-replicate}
use Rattle.std.proofs.lemmas.Simd.{get_or-replicate}
use Rattle.bw_code.proofs.LaneLemmas.{bit_tested, lane_bit, lane_with, lanes_with, one_moved_64}
use Rattle.bw_code.proofs.wide_lanes.rows_with_bit.Goals as goal

pub returns : goal.returns
returns c r h =
    let xs = c.args.codes.now in
    let bit = 1 * 2 ^ c.args.i % 2 ^ 64 in
    let test : ℕ → ℕ → Bool = λ a b. not (a == b) in
    lane_bit w64 test (zip2 bit_and (take 64 xs) (replicate 64 bit)) (replicate 64 0) r (lanes_with bit_and xs bit c.requires.long) (length-replicate {A = ℕ} 64 0) h
    ∙ ap (λ a. test a (get_or (replicate 64 0) r 0)) (lane_with bit_and xs bit c.requires.long r h)
    ∙ ap (test (bit_and (get_or xs r 0) bit)) (get_or-replicate 64 r 0 0 h)
    ∙ ap (λ y. not (bit_and (get_or xs r 0) y == 0)) (one_moved_64 c.args.i c.requires.bit) ∙ bit_tested (get_or xs r 0) c.args.i
