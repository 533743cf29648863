use Rattle.std.proofs.Common.{ap, arith, drop, get_or, inl, inr, sym, ◌*◌, ◌+◌, ◌-◌, ◌<◌, ◌==◌, ◌^◌, ◌≡◌, ◌∙◌}
use Rattle.std.proofs.lemmas.Bool.{cases_lt}
use Rattle.std.proofs.lemmas.List.{get_or-drop, get_or-take}
use Rattle.std.proofs.lemmas.Nat.Bits.{bit_at_above}
use Rattle.bw_mask.specs.Masks.{bit_of}
use Rattle.bw_mask.proofs.Bits.{bit_of_zero}
use Rattle.bw_vertical.proofs.ByteBits.{bit_in_high, bit_in_low}
use Rattle.bw_vertical.proofs.bytes.codes_of_two_bytes.Goals as goal

pub returns-clause-bits : goal.returns-clause-bits
returns-clause-bits c r b h l =
    let low = get_or c.bytes_of_words-low.result r 0 in
    let high = get_or c.bytes_of_words-high.result r 0 in
    let small : get_or c.bytes_of_words-low.result r 0 < 2 ^ 8 = c.bytes_of_words-low.ensures.fit r in
    let both : get_or c.bytes_of_words-low.result r 0 + 2 ^ 8 * get_or c.bytes_of_words-high.result r 0 < 2 ^ 16 = omega (arith, small, c.bytes_of_words-high.ensures.fit r) in
    ap (λ x. bit_of x b) (c.widened_pairs.ensures r h ∙ c.pairs.ensures r h)
    ∙ elim (cases_lt b 16) [
      | inl p ↦
          elim (cases_lt b 8) [
            | inl q ↦ bit_in_low low high 8 b q ∙ c.bytes_of_words-low.ensures.bits r b h q
            | inr q ↦
                let below : b - 8 < 8 = omega (arith, p, q) in
                let place : 8 + (b - 8) ≡ b = omega (arith, q) in
                let words = c.args.words.now in
                bit_in_high low high 8 b small q
                ∙ c.bytes_of_words-high.ensures.bits r (b - 8) h below
                ∙ ap (λ w. bit_of w r) (get_or-take 24 (drop 8 words) (b - 8) 0 (omega (arith, below)) ∙ get_or-drop 8 words (b - 8) 0 ∙ ap (λ n. get_or words n 0) place)
          ]
      | inr p ↦
          ap (λ x. x == 1) (bit_at_above (low + 2 ^ 8 * high) 16 b both p)
          ∙ sym (ap (λ x. bit_of x r) (c.requires b p l) ∙ bit_of_zero r)
    ]

pub returns-clause-fit : goal.returns-clause-fit
returns-clause-fit c r h = omega (arith, c.widened_pairs.ensures r h, c.pairs.ensures r h, c.bytes_of_words-low.ensures.fit r, c.bytes_of_words-high.ensures.fit r)
