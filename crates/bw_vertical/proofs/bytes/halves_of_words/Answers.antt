use Rattle.std.proofs.Common.{[], List, ap, arith, drop, get_or, length, rules, take, ℕ, ◌+◌, ◌/◌, ◌<◌, ◌∷◌, ◌≡◌, ◌∙◌}
use Rattle.std.proofs.lemmas.List.{get_or-drop, get_or-take}
use Rattle.std.specs.Simd.{first_chunks}
use Rattle.bw_mask.specs.Masks.{bit_of}
use Rattle.bw_vertical.proofs.bytes.halves_of_words.Goals as goal

-- 64 words are two chunks of 32
module _ (words : List ℕ) (chunks : List (List ℕ)) (long : length words ≡ 64) (front : chunks ≡ first_chunks 32 (length words / 32) words) where
  halves : chunks ≡ take 32 words ∷ take 32 (drop 32 words) ∷ []
  halves = front ∙ ap (λ n. first_chunks 32 (n / 32) words) long

  low_word : (b : ℕ) → b < 32 → get_or (get_or chunks 0 []) b 0 ≡ get_or words b 0
  low_word b l = ap (λ hs. get_or (get_or hs 0 []) b 0) halves ∙ get_or-take 32 words b 0 l

  high_word : (b : ℕ) → b < 32 → get_or (get_or chunks 1 []) b 0 ≡ get_or words (32 + b) 0
  high_word b l = ap (λ hs. get_or (get_or hs 1 []) b 0) halves ∙ get_or-take 32 (drop 32 words) b 0 l ∙ get_or-drop 32 words b 0

pub codes_of_words-requires-2-clause-rest : goal.codes_of_words-requires-2-clause-rest
codes_of_words-requires-2-clause-rest c b h l =
    let long : length c.args.words.now ≡ 64 = search rules in
    high_word c.args.words.now c.as_chunks.result.0.now long c.as_chunks.ensures.front b l ∙ c.requires.rest (32 + b) (omega (arith, h)) (omega (arith, l))

pub returns-clause-low : goal.returns-clause-low
returns-clause-low c r b h l =
    let long : length c.args.words.now ≡ 64 = search rules in
    c.codes_of_words.ensures.bits r b h l ∙ ap (λ w. bit_of w r) (low_word c.args.words.now c.as_chunks.result.0.now long c.as_chunks.ensures.front b l)

pub returns-clause-high : goal.returns-clause-high
returns-clause-high c r b h l =
    let long : length c.args.words.now ≡ 64 = search rules in
    c.codes_of_words-2.ensures.bits r b h l ∙ ap (λ w. bit_of w r) (high_word c.args.words.now c.as_chunks.result.0.now long c.as_chunks.ensures.front b l)
