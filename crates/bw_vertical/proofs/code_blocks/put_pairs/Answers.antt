use Rattle.std.proofs.Common.{[], ap, arith, get_or, inl, inr, sym, ℕ, ◌+◌, ◌-◌, ◌<◌, ◌≡◌, ◌∙◌}
use Rattle.std.proofs.Math.Nat.{zero-add}
use Rattle.std.proofs.lemmas.Bool.{cases_lt}
use Rattle.bw_mask.specs.Masks.{bit_of}
use Rattle.bw_vertical.proofs.ByteBits.{part_bit}
use Rattle.bw_vertical.proofs.code_blocks.put_pairs.Goals as goal

none_left : (n : ℕ) → n - 0 ≡ n
none_left n = omega arith

pub returns-then-k-gt8-clause-put : goal.returns-then-k-gt8-clause-put
returns-then-k-gt8-clause-put c b r h l =
    let x = get_or c.args.pairs.now r 0 in
    let j = c.args.j in
    let low = c.args.low in
    let block = c.put_planes_of_bytes-then-k-gt8.new.block in
    elim (cases_lt b 8) [
      | inl p ↦
          ap (λ w. bit_of w r) (c.put_planes_of_bytes-then-k-gt8.ensures.away (low + b) j (λ q. omega (arith, q, p)))
          ∙ ap (λ n. bit_of (get_or (get_or c.put_planes_of_bytes.new.block n []) j 0) r) (sym (none_left (low + b)))
          ∙ c.put_planes_of_bytes.ensures.put b r p (omega arith) l
          ∙ ap (λ v. bit_of v b) (c.byte_of_each.ensures r l)
          ∙ part_bit x 0 8 b p
          ∙ ap (bit_of x) (zero-add b)
      | inr p ↦
          let few : b - 8 < 8 = omega (arith, h, c.requires.narrow) in
          let there : low + b ≡ low + 8 + (b - 8) - 0 = omega (arith, p) in
          let place : 8 + (b - 8) ≡ b = omega (arith, p) in
          ap (λ n. bit_of (get_or (get_or block n []) j 0) r) there
          ∙ c.put_planes_of_bytes-then-k-gt8.ensures.put (b - 8) r few (omega arith) l
          ∙ ap (λ v. bit_of v (b - 8)) (c.byte_of_each-then-k-gt8.ensures r l)
          ∙ part_bit x 8 8 (b - 8) few
          ∙ ap (bit_of x) place
    ]

pub returns-else-k-gt8-clause-put : goal.returns-else-k-gt8-clause-put
returns-else-k-gt8-clause-put c b r h l =
    let p : b < 8 = omega (arith, h, c.if-k-gt8.false) in
    ap (λ n. bit_of (get_or (get_or c.put_planes_of_bytes.new.block n []) c.args.j 0) r) (sym (none_left (c.args.low + b)))
    ∙ c.put_planes_of_bytes.ensures.put b r p (omega arith) l
    ∙ ap (λ v. bit_of v b) (c.byte_of_each.ensures r l) ∙ part_bit (get_or c.args.pairs.now r 0) 0 8 b p ∙ ap (bit_of (get_or c.args.pairs.now r 0)) (zero-add b)

pub returns-then-k-gt8-clause-others : goal.returns-then-k-gt8-clause-others
returns-then-k-gt8-clause-others c b m far = c.put_planes_of_bytes-then-k-gt8.ensures.others b m far ∙ c.put_planes_of_bytes.ensures.others b m far

pub returns-then-k-gt8-clause-below : goal.returns-then-k-gt8-clause-below
returns-then-k-gt8-clause-below c b m h =
    c.put_planes_of_bytes-then-k-gt8.ensures.away b m (λ q. omega (arith, q, h)) ∙ c.put_planes_of_bytes.ensures.away b m (λ q. omega (arith, q, h))

pub returns-else-k-gt8-clause-below : goal.returns-else-k-gt8-clause-below
returns-else-k-gt8-clause-below c b m h = c.put_planes_of_bytes.ensures.away b m (λ q. omega (arith, q, h))
