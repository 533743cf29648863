use Rattle.std.proofs.Common.{ap, arith, get_or, inl, inr, sym, ◌==◌, ◌∙◌}
use Rattle.std.proofs.lemmas.Bool.{cases_lt}
use Rattle.std.proofs.lemmas.Nat.Bits.{bit_at_above}
use Rattle.bw_mask.specs.Masks.{bit_of}
use Rattle.bw_mask.proofs.Bits.{bit_of_zero}
use Rattle.bw_vertical.proofs.bytes.codes_of_byte.Goals as goal

pub returns-clause-bits : goal.returns-clause-bits
returns-clause-bits c r b h l =
    let byte = get_or c.bytes_of_words.result r 0 in
    ap (λ x. bit_of x b) (c.widened.ensures r h)
    ∙ elim (cases_lt b 8) [
      | inl p ↦ c.bytes_of_words.ensures.bits r b h p
      | inr p ↦
          ap (λ x. x == 1) (bit_at_above byte 8 b (c.bytes_of_words.ensures.fit r) p)
          ∙ sym (ap (λ x. bit_of x r) (c.requires b p l) ∙ bit_of_zero r)
    ]

pub returns-clause-fit : goal.returns-clause-fit
returns-clause-fit c r h = omega (arith, c.widened.ensures r h, c.bytes_of_words.ensures.fit r)
