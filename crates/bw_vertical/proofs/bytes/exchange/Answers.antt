use Rattle.std.proofs.Common.{ap, arith, cond, get_or, inl, inr, length, length-set, set, sym, ◌%◌, ◌*◌, ◌+◌, ◌-◌, ◌/◌, ◌<◌, ◌≡◌, ◌∙◌}
use Rattle.std.proofs.lemmas.Bool.{cases_eq}
use Rattle.std.proofs.lemmas.List.{get_or-set_other, get_or-set_same}
use Rattle.bw_mask.specs.Masks.{bit_of}
use Rattle.bw_vertical.proofs.bytes.exchange.Goals as goal

pub loop-i-preserved : goal.loop-i-preserved
loop-i-preserved c =
    let i = c.loop-i.i in
    let s = c.args.s in
    let mask = c.args.mask in
    let ws = c.args.words.now in
    let low = c.exchanged-low.result.0 in
    let high = c.exchanged-low.result.1 in
    let xs = c.loop-i.next in
    let ys = set xs (2 * i) low in
    let inv = c.loop-i.invariant in
    let within : i < 4 = c.loop-i-test.true in
    let long : length ys ≡ 8 = length-set xs (2 * i) low ∙ inv.long in
    record {
      long = length-set ys (2 * i + 1) high ∙ long;
      done = λ q r h l.
          elim (cases_eq q (2 * i + 1)) [
            | inl e ↦
                let half : q / 2 ≡ i = omega (arith, e) in
                let one : q % 2 ≡ 1 = omega (arith, e) in
                let place : s * (q % 2) + r ≡ s + r = ap (λ d. s * d + r) one ∙ omega arith in
                let back : s + r - s ≡ r = omega arith in
                ap (λ n. bit_of (get_or (set ys (2 * i + 1) high) n 0) r) e
                ∙ ap (λ w. bit_of w r) (get_or-set_same ys (2 * i + 1) high 0 (omega (arith, long, within)))
                ∙ c.exchanged-low.ensures.high r l
                ∙ sym (
                ap (λ p. cond (bit_of mask r) (bit_of (get_or ws p 0) (s * (q % 2) + r)) (bit_of (get_or ws (4 + p) 0) (s * (q % 2) + r - s))) half
                ∙ ap (λ t. cond (bit_of mask r) (bit_of (get_or ws i 0) t) (bit_of (get_or ws (4 + i) 0) (t - s))) place
                ∙ ap (λ t. cond (bit_of mask r) (bit_of (get_or ws i 0) (s + r)) (bit_of (get_or ws (4 + i) 0) t)) back)
            | inr d ↦
                ap (λ w. bit_of w r) (get_or-set_other ys (2 * i + 1) q high 0 d)
                ∙ elim (cases_eq q (2 * i)) [
                  | inl e ↦
                      let half : q / 2 ≡ i = omega (arith, e) in
                      let none : q % 2 ≡ 0 = omega (arith, e) in
                      let place : s * (q % 2) + r ≡ r = ap (λ d. s * d + r) none ∙ omega arith in
                      ap (λ n. bit_of (get_or ys n 0) r) e
                      ∙ ap (λ w. bit_of w r) (get_or-set_same xs (2 * i) low 0 (omega (arith, inv.long, within)))
                      ∙ c.exchanged-low.ensures.low r l
                      ∙ sym (
                      ap (λ p. cond (bit_of mask r) (bit_of (get_or ws p 0) (s * (q % 2) + r)) (bit_of (get_or ws (4 + p) 0) (s * (q % 2) + r - s))) half
                      ∙ ap (λ t. cond (bit_of mask r) (bit_of (get_or ws i 0) t) (bit_of (get_or ws (4 + i) 0) (t - s))) place)
                  | inr f ↦ ap (λ w. bit_of w r) (get_or-set_other xs (2 * i) q low 0 f) ∙ inv.done q r (omega (arith, h, d, f)) l
                ]
          ];
    }
