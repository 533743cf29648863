use Rattle.std.proofs.Common.{arith, drop, get_or, inl, inr, length, length-drop, length-take, refl, ap, take, ◌∙◌, ◌+◌, ◌*◌, ◌-◌, ◌<◌, ◌≡◌, ◌≤◌}
use Rattle.std.proofs.lemmas.Bool.{cases_lt, lt-ltb}
use Rattle.std.proofs.lemmas.List.{get_or-drop, get_or-take}
use Rattle.bw_code.proofs.Parts.{before_part, behind_part, in_part, part_length}
use Rattle.bw_code.proofs.shift.shift_blocks.Goals as goal

pub loop-q-preserved : goal.loop-q-preserved
loop-q-preserved c =
    let i = c.loop-q.invariant in
    let codes = c.loop-q.codes in
    let new = c.shift_block.new.codes in
    let at = 64 * c.loop-q.q in
    let n = c.min-end.result - at in
    let q_below : at < length codes = omega (arith, c.loop-q-test.true, c.div_ceil-q-end.ensures, i.long) in
    let end_is = c.min-end.ensures in
    let part : length (take n (drop at codes)) ≡ n = omega (arith, length-take n (drop at codes), length-drop at codes, end_is) in
    let long : length new ≡ n = c.shift_block.ensures.len ∙ part in
    let fits : at + n ≤ length codes = omega (arith, end_is, q_below) in
    record {
      done = λ k h l.
          elim (cases_lt k at) [
            | inl below ↦ before_part at n codes new 0 fits long k below ∙ i.done k below (omega (arith, fits, below))
            | inr above ↦
                let j = k - at in
                let inside : j < n = omega (arith, h, l, above, end_is, part_length at n codes new 0 fits long) in
                let here : at + j ≡ k = omega (arith, above) in
                let code : get_or (take n (drop at codes)) j 0 ≡ get_or c.args.codes.now k 0 = get_or-take n (drop at codes) j 0 inside ∙ get_or-drop at codes j 0 ∙ ap (λ m. get_or codes m 0) here ∙ i.left k above in
                in_part at n codes new 0 fits long k above (omega (arith, inside))
                ∙ c.shift_block.ensures.codes j (omega (arith, part, inside))
                ∙ rw (c.bits.ensures j, lt-ltb j 64 (omega (arith, inside, end_is)), here, code) refl
          ];
      left = λ k h. behind_part at n codes new 0 fits long k (omega (arith, h, end_is)) ∙ i.left k (omega (arith, h));
      long = part_length at n codes new 0 fits long ∙ i.long;
    }
