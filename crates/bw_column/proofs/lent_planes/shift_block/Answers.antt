use Rattle.std.proofs.Common.{[], ap, arith, get_or, if◌then◌else◌, inl, inr, sym, ℕ, ◌%◌, ◌*◌, ◌+◌, ◌-◌, ◌/◌, ◌<◌, ◌≡◌, ◌∙◌}
use mathlib.Core.Logic.{◌≢◌}
use Rattle.std.proofs.lemmas.Bool.{cases_lt}
use Rattle.bw_mask.specs.Masks.{bit_of, row_in}
use Rattle.bw_vertical.specs.Planes.{code_by_planes}
use Rattle.bw_column.proofs.BlockWords.{number_of_word, row_of_word_at}
use Rattle.bw_column.proofs.lent_planes.shift_block.Goals as goal

pub loop-j-preserved : goal.loop-j-preserved
loop-j-preserved c =
    let j = c.loop-j.j in
    let own = c.args.own in
    let more = c.args.by in
    let rows = c.args.rows.now in
    let old = c.args.block.now in
    let new = c.put_word_of_planes.new.block in
    let i = c.loop-j.invariant in
    let words = c.read_word_of_planes.new.words in
    let put = c.put_word_of_planes.ensures in
    let same : (b : ℕ) → b < own → get_or words b 0 ≡ get_or (get_or old b []) j 0 = λ b h. c.read_word_of_planes.ensures.read b h ∙ i.rest b j (omega arith) in
    record {
      shifted = λ b r h l.
          elim (cases_lt r (64 * j)) [
            | inl p ↦
                let apart : r / 64 ≢ j = λ e. omega (arith, e, p) in
                ap (λ w. bit_of w (r % 64)) (put.others b (r / 64) apart) ∙ i.shifted b r h p
            | inr p ↦
                let q = r - 64 * j in
                let here : 64 * j + (r - 64 * j) ≡ r = omega (arith, p) in
                let low : r - 64 * j < 64 = omega (arith, p, l) in
                ap (row_in (get_or new b [])) (sym here)
                ∙ row_of_word_at (get_or new b []) j q low
                ∙ ap (λ w. bit_of w q) (put.written b h)
                ∙ c.shift_words.ensures b q h low
                ∙ ap (λ x. bit_of (x + (if bit_of (get_or rows j 0) q then more else 0)) b) (number_of_word own j words old same q low)
                ∙ ap (λ t. bit_of (code_by_planes own old (64 * j + q) + (if t then more else 0)) b) (sym (row_of_word_at rows j q low))
                ∙ ap (λ s. bit_of (code_by_planes own old s + (if row_in rows s then more else 0)) b) here
          ];
      rest = λ b m h. put.others b m (λ e. omega (arith, e, h)) ∙ i.rest b m (omega (arith, h));
    }
