use Rattle.std.proofs.Common.{ap, arith, bit_and, cond, sym, ℕ, ◌%◌, ◌/◌, ◌^◌, ◌≡◌, ◌∙◌}
use Rattle.std.proofs.lemmas.Nat.Bits.{shr_and_one}
use Rattle.bw_mask.specs.Masks.{bit_of}
use Rattle.bw_vertical.specs.Storage.{is_set, lists}
use Rattle.bw_vertical.proofs.Numbers.{bit_is, bit_most, number_fits, number_more}
use Rattle.bw_vertical.proofs.codes.code_at.Goals as goal

pub overflow_mul-code : goal.overflow_mul-code
overflow_mul-code c = omega (arith, number_fits (λ i. is_set c.args.k (lists c.args.groups.now) i c.args.j) c.loop-i.i 63 (omega arith), c.loop-i.invariant)

pub overflow_add-code : goal.overflow_add-code
overflow_add-code c =
    let r = c.args.j % 64 in
    let bit : bit_and (c.word_at.result / 2 ^ r) 1 ≡ cond {A = ℕ} (bit_of c.word_at.result r) 1 0 = shr_and_one c.word_at.result r ∙ sym (bit_is c.word_at.result r) in
    omega (arith, number_fits (λ i. is_set c.args.k (lists c.args.groups.now) i c.args.j) c.loop-i.i 63 (omega arith), bit, bit_most (bit_of c.word_at.result r), c.loop-i.invariant)

pub loop-i-preserved : goal.loop-i-preserved
loop-i-preserved c =
    let r = c.args.j % 64 in
    let row = λ (i : ℕ). is_set c.args.k (lists c.args.groups.now) i c.args.j in
    let bit : bit_and (c.word_at.result / 2 ^ r) 1 ≡ cond {A = ℕ} (row c.loop-i.i) 1 0 =
    shr_and_one c.word_at.result r ∙ sym (bit_is c.word_at.result r) ∙ ap (λ w. cond {A = ℕ} (bit_of w r) 1 0) c.word_at.ensures in
    omega (arith, number_more row c.loop-i.i, bit, c.loop-i.invariant)
