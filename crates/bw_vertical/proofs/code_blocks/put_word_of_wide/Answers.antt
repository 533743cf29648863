use Rattle.std.proofs.Common.{[], ap, arith, get_or, inl, inr, List, min, sym, ℕ, ◌%◌, ◌+◌, ◌-◌, ◌/◌, ◌<◌, ◌^◌, ◌≡◌, ◌∙◌}
use Rattle.std.proofs.Math.Nat.{zero-add}
use Rattle.std.proofs.lemmas.Bool.{cases_lt}
use Rattle.bw_mask.specs.Masks.{bit_of}
use Rattle.bw_vertical.proofs.Halves.{half_bit}
use Rattle.bw_vertical.proofs.code_blocks.put_word_of_wide.Goals as goal

-- word j of the planes of the 32 lowest bits
low : (k m j r x half : ℕ) (block : List (List ℕ)) → m ≡ min k 32 → half ≡ x / 2 ^ 0 % 2 ^ 32 → ((b : ℕ) → b < m → bit_of (get_or (get_or block (0 + b) []) j 0) r ≡ bit_of half b) → (b : ℕ) → b < 32 → b < k → bit_of (get_or (get_or block b []) j 0) r ≡ bit_of x b
low k m j r x half block is half_is each b p h =
    ap (λ n. bit_of (get_or (get_or block n []) j 0) r) (sym (zero-add b))
    ∙ each b (omega (arith, p, h, is))
    ∙ ap (λ v. bit_of v b) half_is
    ∙ half_bit x 0 b p
    ∙ ap (bit_of x) (zero-add b)

pub returns-then-k-gt32-clause-put : goal.returns-then-k-gt32-clause-put
returns-then-k-gt32-clause-put c b r h l =
    let x = get_or c.args.codes.now r 0 in
    let j = c.args.j in
    let block = c.put_word_of_codes-then-k-gt32.new.block in
    elim (cases_lt b 32) [
      | inl p ↦
          ap (λ w. bit_of w r) (c.put_word_of_codes-then-k-gt32.ensures.below b j p)
          ∙ low c.args.k c.min.result j r x (get_or c.narrowed.result r 0) c.put_word_of_codes.new.block c.min.ensures (c.narrowed.ensures r) (λ i d. c.put_word_of_codes.ensures.put i r d l) b p h
      | inr p ↦
          let place : 32 + (b - 32) ≡ b = omega (arith, p) in
          let inside : b - 32 < 32 = omega (arith, h, c.requires.narrow) in
          ap (λ n. bit_of (get_or (get_or block n []) j 0) r) (sym place)
          ∙ c.put_word_of_codes-then-k-gt32.ensures.put (b - 32) r (omega (arith, p, h)) l
          ∙ ap (λ v. bit_of v (b - 32)) (c.narrowed-then-k-gt32.ensures r)
          ∙ half_bit x 32 (b - 32) inside
          ∙ ap (bit_of x) place
    ]

pub returns-else-k-gt32-clause-put : goal.returns-else-k-gt32-clause-put
returns-else-k-gt32-clause-put c b r h l =
    low c.args.k c.min.result c.args.j r (get_or c.args.codes.now r 0) (get_or c.narrowed.result r 0) c.put_word_of_codes.new.block c.min.ensures (c.narrowed.ensures r) (λ i d. c.put_word_of_codes.ensures.put i r d l) b (omega (arith, h, c.if-k-gt32.false)) h

pub returns-then-k-gt32-clause-others : goal.returns-then-k-gt32-clause-others
returns-then-k-gt32-clause-others c b m far = c.put_word_of_codes-then-k-gt32.ensures.others b m far ∙ c.put_word_of_codes.ensures.others b m far
