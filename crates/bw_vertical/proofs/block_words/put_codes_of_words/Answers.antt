use Rattle.std.proofs.Common.{[], List, ap, arith, drop, get_or, length, take, ℕ, ◌/◌, ◌<◌, ◌∷◌, ◌≡◌, ◌∙◌}
use Rattle.std.proofs.lemmas.List.{get_or-take}
use Rattle.std.specs.Simd.{first_chunks}
use Rattle.bw_mask.specs.Masks.{bit_of}
use Rattle.bw_vertical.proofs.WordCodes.{narrow_row}
use Rattle.bw_vertical.proofs.block_words.put_codes_of_words.Goals as goal

-- the first 32 of 64 words
first_half : (words : List ℕ) (chunks : List (List ℕ)) → length words ≡ 64 → chunks ≡ first_chunks 32 (length words / 32) words → (b : ℕ) → b < 32 → get_or (get_or chunks 0 []) b 0 ≡ get_or words b 0
first_half words chunks long front b l =
    let halves : chunks ≡ take 32 words ∷ take 32 (drop 32 words) ∷ [] = front ∙ ap (λ n. first_chunks 32 (n / 32) words) long in
    ap (λ hs. get_or (get_or hs 0 []) b 0) halves ∙ get_or-take 32 words b 0 l

pub codes_of_words-requires-clause-rest : goal.codes_of_words-requires-clause-rest
codes_of_words-requires-clause-rest c b h l = first_half c.args.words.now c.as_chunks.result.0.now c.told-words c.as_chunks.ensures.front b l ∙ c.requires.rest b h (omega (arith, l))

pub returns-then-k-le32-clause-codes : goal.returns-then-k-le32-clause-codes
returns-then-k-le32-clause-codes c r h =
    let words = c.args.words.now in
    let row : r < 64 = omega (arith, h, c.requires.few) in
    c.widen.ensures.same r h
    ∙ narrow_row c.args.k words r c.requires.rest c.if-k-le32.true _ (c.codes_of_words.ensures.fit r row)
    (λ b l. c.codes_of_words.ensures.bits r b row l ∙ ap (λ w. bit_of w r) (first_half words c.as_chunks.result.0.now c.told-words c.as_chunks.ensures.front b l))
