use Rattle.std.proofs.Common.{ap, arith, get_or, inl, inr, ◌+◌, ◌-◌, ◌<◌, ◌≡◌, ◌∙◌}
use Rattle.std.proofs.Math.Nat.{zero-add}
use Rattle.std.proofs.lemmas.Bool.{cases_lt}
use Rattle.bw_mask.specs.Masks.{bit_of}
use Rattle.bw_vertical.proofs.ByteBits.{part_bit}
use Rattle.bw_vertical.proofs.bytes.put_pairs.Goals as goal

pub returns-then-k-gt8-clause-inside : goal.returns-then-k-gt8-clause-inside
returns-then-k-gt8-clause-inside c b r h l =
    let x = get_or c.args.pairs.now r 0 in
    let words = c.put_words_of_bytes-then-k-gt8.new.words in
    elim (cases_lt b 8) [
      | inl p ↦
          ap (λ w. bit_of w r) (c.put_words_of_bytes-then-k-gt8.ensures.before (c.args.at + b) (omega (arith, p)))
          ∙ c.put_words_of_bytes.ensures.inside b r p l
          ∙ ap (λ v. bit_of v b) (c.byte_of_each.ensures r l)
          ∙ part_bit x 0 8 b p
          ∙ ap (bit_of x) (zero-add b)
      | inr p ↦
          let low : b - 8 < 8 = omega (arith, h, c.requires.narrow) in
          let there : c.args.at + b ≡ c.args.at + 8 + (b - 8) = omega (arith, p) in
          let place : 8 + (b - 8) ≡ b = omega (arith, p) in
          ap (λ n. bit_of (get_or words n 0) r) there
          ∙ c.put_words_of_bytes-then-k-gt8.ensures.inside (b - 8) r low l
          ∙ ap (λ v. bit_of v (b - 8)) (c.byte_of_each-then-k-gt8.ensures r l)
          ∙ part_bit x 8 8 (b - 8) low
          ∙ ap (bit_of x) place
    ]

pub returns-else-k-gt8-clause-inside : goal.returns-else-k-gt8-clause-inside
returns-else-k-gt8-clause-inside c b r h l =
    let p : b < 8 = omega (arith, h, c.if-k-gt8.false) in
    c.put_words_of_bytes.ensures.inside b r p l ∙ ap (λ v. bit_of v b) (c.byte_of_each.ensures r l) ∙ part_bit (get_or c.args.pairs.now r 0) 0 8 b p ∙ ap (bit_of (get_or c.args.pairs.now r 0)) (zero-add b)
