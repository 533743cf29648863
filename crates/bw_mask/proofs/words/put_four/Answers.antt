use Rattle.std.proofs.Common.{ap, arith, get_or, inl, inr, length, set, ◌%◌, ◌*◌, ◌+◌, ◌-◌, ◌/◌, ◌<◌, ◌≡◌, ◌∙◌}
use Rattle.std.proofs.lemmas.Bool.{cases_lt}
use Rattle.std.proofs.lemmas.List.{get_or-set_other, get_or-set_same, length-set}
use Rattle.bw_mask.specs.Masks.{bit_of}
use Rattle.bw_mask.proofs.words.put_four.Goals as goal

pub loop-i-preserved : goal.loop-i-preserved
loop-i-preserved c =
    let xs = c.loop-i.words in
    let ys = c.args.lanes.now in
    let i = c.loop-i.i in
    let q = c.args.q in
    let at = 4 * q + i in
    let word = get_or ys i 0 in
    let new = set xs at word in
    let low : i < 4 = c.loop-i-test.true in
    let there : at < length xs = omega (arith, low, c.loop-i.invariant.len, c.requires) in
    record {
      len = length-set xs at word ∙ c.loop-i.invariant.len;
      inside = λ j h. elim (cases_lt j (64 * i)) [
        | inl l ↦ ap (λ w. bit_of w ((256 * q + j) % 64)) (get_or-set_other xs at ((256 * q + j) / 64) word 0 (λ e. absurd (omega (arith, e, l)))) ∙ c.loop-i.invariant.inside j l
        | inr l ↦
            let here : (256 * q + j) / 64 ≡ at = omega (arith, h, l) in
            let lane : i ≡ j / 64 = omega (arith, h, l) in
            let place : (256 * q + j) % 64 ≡ j % 64 = omega arith in
            ap (λ k. bit_of (get_or new k 0) ((256 * q + j) % 64)) here
            ∙ ap (λ w. bit_of w ((256 * q + j) % 64)) (get_or-set_same xs at word 0 there)
            ∙ ap (λ k. bit_of (get_or ys k 0) ((256 * q + j) % 64)) lane
            ∙ ap (bit_of (get_or ys (j / 64) 0)) place
      ];
      other = λ j away. ap (λ w. bit_of w (j % 64)) (get_or-set_other xs at (j / 64) word 0 (λ e. absurd (omega (arith, e, low, away)))) ∙ c.loop-i.invariant.other j away;
    }
