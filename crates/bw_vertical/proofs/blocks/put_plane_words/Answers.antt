use Rattle.std.proofs.Common.{ap, arith, get_or, inl, inr, List, min, sym, ℕ, ◌%◌, ◌+◌, ◌-◌, ◌/◌, ◌<◌, ◌^◌, ◌≡◌, ◌∙◌}
use Rattle.std.proofs.Math.Nat.{zero-add}
use Rattle.std.proofs.lemmas.Bool.{cases_lt}
use Rattle.bw_mask.specs.Masks.{bit_of}
use Rattle.bw_vertical.proofs.Halves.{half_bit}
use Rattle.bw_vertical.proofs.blocks.put_plane_words.Goals as goal

-- the words of the 32 lowest bits
low : (k m r x half : ℕ) (words : List ℕ) → m ≡ min k 32 → half ≡ x / 2 ^ 0 % 2 ^ 32 → ((b : ℕ) → b < m → bit_of (get_or words (0 + b) 0) r ≡ bit_of half b) → (b : ℕ) → b < 32 → b < k → bit_of (get_or words b 0) r ≡ bit_of x b
low k m r x half words is half_is each b p h =
    ap (λ n. bit_of (get_or words n 0) r) (sym (zero-add b))
    ∙ each b (omega (arith, p, h, is))
    ∙ ap (λ v. bit_of v b) half_is
    ∙ half_bit x 0 b p
    ∙ ap (bit_of x) (zero-add b)

pub returns-then-k-gt32 : goal.returns-then-k-gt32
returns-then-k-gt32 c b r h l =
    let x = get_or c.args.codes.now r 0 in
    let words = c.put_codes-then-k-gt32.new.words in
    elim (cases_lt b 32) [
      | inl p ↦ ap (λ w. bit_of w r) (c.put_codes-then-k-gt32.ensures.before b p) ∙ low c.args.k c.min.result r x (get_or c.narrowed.result r 0) c.put_codes.new.words c.min.ensures (c.narrowed.ensures r) (λ i d. c.put_codes.ensures.inside i r d l) b p h
      | inr p ↦
          let i = b - 32 in
          let place : 32 + (b - 32) ≡ b = omega (arith, p) in
          let inside : b - 32 < 32 = omega (arith, h, c.requires.narrow) in
          ap (λ n. bit_of (get_or words n 0) r) (sym place)
          ∙ c.put_codes-then-k-gt32.ensures.inside (b - 32) r (omega (arith, p, h)) l
          ∙ ap (λ v. bit_of v (b - 32)) (c.narrowed-then-k-gt32.ensures r)
          ∙ half_bit x 32 (b - 32) inside
          ∙ ap (bit_of x) place
    ]

pub returns-else-k-gt32 : goal.returns-else-k-gt32
returns-else-k-gt32 c b r h l = low c.args.k c.min.result r (get_or c.args.codes.now r 0) (get_or c.narrowed.result r 0) c.put_codes.new.words c.min.ensures (c.narrowed.ensures r) (λ i d. c.put_codes.ensures.inside i r d l) b (omega (arith, h, c.if-k-gt32.false)) h
