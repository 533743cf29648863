use Rattle.std.proofs.Common.{[], ap, arith, get_or, inl, inr, refl, sym, ℕ, ◌%◌, ◌*◌, ◌/◌, ◌≤◌, ◌∙◌}
use Rattle.std.proofs.lemmas.Bool.{cases_lt}
use Rattle.bw_mask.specs.Masks.{bit_of}
use Rattle.bw_mask.proofs.Bits.{bit_of_zero}
use Rattle.bw_vertical.proofs.ByteBits.{joined_bit, zeros_in_lists}
use Rattle.bw_vertical.proofs.bytes.codes_of_words.Goals as goal

pub loop-j-init : goal.loop-j-init
loop-j-init c = record {
  long = refl;
  done = λ b r h l. absurd (omega (arith, h));
  rest = λ q r h. zeros_in_lists 4 64 q r;
  fit = λ q r. rw (zeros_in_lists 4 64 q r) (omega arith);
}

pub returns-clause-bits : goal.returns-clause-bits
returns-clause-bits c r b h l =
    let k = c.args.k in
    let bytes = c.loop-j.bytes in
    let inv = c.loop-j.invariant in
    let byte = λ (j : ℕ). get_or (get_or bytes j []) r 0 in
    ap (λ x. bit_of x b) (c.joined.ensures r h)
    ∙ joined_bit byte (λ j. inv.fit j r) b l
    ∙ elim (cases_lt b (8 * c.loop-j.j)) [
      | inl p ↦ inv.done b r p h
      | inr p ↦
          let past : k ≤ b = omega (arith, c.div_ceil-j-end.ensures, c.loop-j-test.false, p) in
          let behind : c.loop-j.j ≤ b / 8 = omega (arith, p) in
          ap (λ x. bit_of x (b % 8)) (inv.rest (b / 8) r behind) ∙ bit_of_zero (b % 8) ∙ sym (ap (λ x. bit_of x r) (c.requires.rest b past l) ∙ bit_of_zero r)
    ]

pub returns-clause-fit : goal.returns-clause-fit
returns-clause-fit c r h =
    let fit = c.loop-j.invariant.fit in
    omega (arith, c.joined.ensures r h, fit 0 r, fit 1 r, fit 2 r, fit 3 r)
