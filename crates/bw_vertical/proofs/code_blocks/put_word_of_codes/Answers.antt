use Rattle.std.proofs.Common.{[], ap, arith, get_or, inl, inr, ◌+◌, ◌-◌, ◌<◌, ◌≡◌, ◌∙◌}
use Rattle.std.proofs.Math.Nat.{zero-add}
use Rattle.std.proofs.lemmas.Bool.{cases_lt}
use Rattle.bw_mask.specs.Masks.{bit_of}
use Rattle.bw_vertical.proofs.ByteBits.{part_bit}
use Rattle.bw_vertical.proofs.code_blocks.put_word_of_codes.Goals as goal

pub returns-then-k-gt16-clause-put : goal.returns-then-k-gt16-clause-put
returns-then-k-gt16-clause-put c b r h l =
    let x = get_or c.args.codes.now r 0 in
    let j = c.args.j in
    let low = c.args.low in
    let block = c.put_pairs-then-k-gt16.new.block in
    elim (cases_lt b 16) [
      | inl p ↦
          ap (λ w. bit_of w r) (c.put_pairs-then-k-gt16.ensures.below (low + b) j (omega (arith, p)))
          ∙ c.put_pairs.ensures.put b r (omega (arith, p, c.min.ensures, c.if-k-gt16.true)) l
          ∙ ap (λ v. bit_of v b) (c.pair_of_each.ensures r l)
          ∙ part_bit x 0 16 b p
          ∙ ap (bit_of x) (zero-add b)
      | inr p ↦
          let few : b - 16 < 16 = omega (arith, h, c.requires.narrow) in
          let there : low + b ≡ low + 16 + (b - 16) = omega (arith, p) in
          let place : 16 + (b - 16) ≡ b = omega (arith, p) in
          ap (λ n. bit_of (get_or (get_or block n []) j 0) r) there
          ∙ c.put_pairs-then-k-gt16.ensures.put (b - 16) r (omega (arith, p, h)) l
          ∙ ap (λ v. bit_of v (b - 16)) (c.pair_of_each-then-k-gt16.ensures r l)
          ∙ part_bit x 16 16 (b - 16) few
          ∙ ap (bit_of x) place
    ]

pub returns-else-k-gt16-clause-put : goal.returns-else-k-gt16-clause-put
returns-else-k-gt16-clause-put c b r h l =
    let p : b < 16 = omega (arith, h, c.if-k-gt16.false) in
    c.put_pairs.ensures.put b r (omega (arith, h, p, c.min.ensures)) l ∙ ap (λ v. bit_of v b) (c.pair_of_each.ensures r l) ∙ part_bit (get_or c.args.codes.now r 0) 0 16 b p ∙ ap (bit_of (get_or c.args.codes.now r 0)) (zero-add b)

pub returns-then-k-gt16-clause-others : goal.returns-then-k-gt16-clause-others
returns-then-k-gt16-clause-others c b m far = c.put_pairs-then-k-gt16.ensures.others b m far ∙ c.put_pairs.ensures.others b m far

pub returns-then-k-gt16-clause-below : goal.returns-then-k-gt16-clause-below
returns-then-k-gt16-clause-below c b m h = c.put_pairs-then-k-gt16.ensures.below b m (omega (arith, h)) ∙ c.put_pairs.ensures.below b m h
