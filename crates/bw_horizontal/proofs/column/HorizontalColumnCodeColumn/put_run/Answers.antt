use Rattle.std.proofs.Common.{ap, arith, false, get_or, length, ℕ, ◌+◌, ◌-◌, ◌≡◌, ◌≤◌, ◌∙◌}
use Rattle.bw_code.specs.Columns.{is_chosen}
use Rattle.bw_code.proofs.Runs.{chosen_from}
use Rattle.bw_horizontal.proofs.Spans.{codes_blended, words_blended}
use Rattle.bw_horizontal.proofs.Views.{count_is, word_there, written}
use Rattle.bw_horizontal.proofs.column.HorizontalColumnCodeColumn.put_run.Goals as goal

pub put_run-requires-clause-there : goal.put_run-requires-clause-there
put_run-requires-clause-there c j h =
    let inside = c.self.inside in
    let low : c.args.at + length c.args.codes.now ≤ inside.len = grind (arith, count_is) in
    rw c.deref_mut.ensures.value (omega (arith, word_there inside.width inside.len j c.self.invariant.narrow (omega (arith, h, low)), c.self.invariant.segments.count))

pub invariant_of-self : goal.invariant_of-self
invariant_of-self c =
    let inside = c.self.inside in
    let at = c.args.at in
    let words = inside.words.items in
    let new = c.put_run.new.words in
    let codes = c.args.codes.now in
    let low : at + length codes ≤ inside.len = grind (arith, count_is) in
    let len : length new ≡ length words = c.put_run.ensures.len ∙ ap length c.deref_mut.ensures.value in
    let each = rw c.deref_mut.ensures.value at c.put_run.ensures.codes in
    let none : (j : ℕ) → inside.len ≤ j → is_chosen at c.args.rows j ≡ false = λ j l. chosen_from at c.args.rows j (omega (arith, l, low)) ∙ c.requires.given (j - at) (omega (arith, l, low)) in
    rw (written inside.words.len new words (omega (arith, len))) (words_blended inside.width inside.len at c.args.rows (λ j. get_or codes (j - at) 0) words new c.self.invariant len c.put_run.ensures.stored none each)

pub returns-clause-codes : goal.returns-clause-codes
returns-clause-codes c =
    let inside = c.self.inside in
    let at = c.args.at in
    let words = inside.words.items in
    let new = c.put_run.new.words in
    let codes = c.args.codes.now in
    let low : at + length codes ≤ inside.len = grind (arith, count_is) in
    let len : length new ≡ length words = c.put_run.ensures.len ∙ ap length c.deref_mut.ensures.value in
    let each = rw c.deref_mut.ensures.value at c.put_run.ensures.codes in
    let none : (j : ℕ) → inside.len ≤ j → is_chosen at c.args.rows j ≡ false = λ j l. chosen_from at c.args.rows j (omega (arith, l, low)) ∙ c.requires.given (j - at) (omega (arith, l, low)) in
    rw (written inside.words.len new words (omega (arith, len)), ← c.self.view_is) (codes_blended inside.width inside.len at c.args.rows (λ j. get_or codes (j - at) 0) words new c.self.invariant len c.put_run.ensures.stored none each)
