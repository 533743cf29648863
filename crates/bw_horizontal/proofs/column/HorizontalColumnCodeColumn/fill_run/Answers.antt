use Rattle.std.proofs.Common.{ap, arith, length, true, ℕ, ◌+◌, ◌<◌, ◌≡◌, ◌∙◌}
use Rattle.bw_mask.specs.Masks.{bit_of}
use Rattle.bw_horizontal.proofs.Spans.{codes_blended, none_behind, segment_words, words_blended}
use Rattle.bw_horizontal.proofs.Views.{count_is, written}
use Rattle.bw_horizontal.proofs.column.HorizontalColumnCodeColumn.fill_run.Goals as goal

pub fill_run-requires-clause-none : goal.fill_run-requires-clause-none
fill_run-requires-clause-none c =
    let inside = c.self.inside in
    let there : (i : ℕ) → bit_of c.args.rows i ≡ true → c.args.at + i < inside.len = λ i e. let low = c.requires.there i e in grind (arith, count_is) in
    none_behind inside.len c.args.at c.args.rows c.min-end.result c.ranges.rows.fits (λ l. omega (arith, l, c.min-end.ensures)) there

pub fill_run-requires-clause-there : goal.fill_run-requires-clause-there
fill_run-requires-clause-there c q h =
    let inside = c.self.inside in
    rw c.deref_mut.ensures.value (omega (arith, segment_words inside.width inside.len q c.self.invariant.narrow (omega (arith, h, c.min-end.ensures)), c.self.invariant.segments.count))

pub invariant_of-self : goal.invariant_of-self
invariant_of-self c =
    let inside = c.self.inside in
    let at = c.args.at in
    let words = inside.words.items in
    let new = c.fill_run.new.words in
    let len : length new ≡ length words = c.fill_run.ensures.len ∙ ap length c.deref_mut.ensures.value in
    let each = rw c.deref_mut.ensures.value at c.fill_run.ensures.codes in
    let there : (i : ℕ) → bit_of c.args.rows i ≡ true → at + i < inside.len = λ i e. let low = c.requires.there i e in grind (arith, count_is) in
    let none = none_behind inside.len at c.args.rows c.min-end.result c.ranges.rows.fits (λ l. omega (arith, l, c.min-end.ensures)) there in
    rw (written inside.words.len new words (omega (arith, len))) (words_blended inside.width inside.len at c.args.rows (λ j. c.args.code) words new c.self.invariant len c.fill_run.ensures.stored (λ j l. none j (omega (arith, l, c.min-end.ensures))) each)

pub returns-clause-codes : goal.returns-clause-codes
returns-clause-codes c =
    let inside = c.self.inside in
    let at = c.args.at in
    let words = inside.words.items in
    let new = c.fill_run.new.words in
    let len : length new ≡ length words = c.fill_run.ensures.len ∙ ap length c.deref_mut.ensures.value in
    let each = rw c.deref_mut.ensures.value at c.fill_run.ensures.codes in
    let there : (i : ℕ) → bit_of c.args.rows i ≡ true → at + i < inside.len = λ i e. let low = c.requires.there i e in grind (arith, count_is) in
    let none = none_behind inside.len at c.args.rows c.min-end.result c.ranges.rows.fits (λ l. omega (arith, l, c.min-end.ensures)) there in
    rw (written inside.words.len new words (omega (arith, len)), ← c.self.view_is) (codes_blended inside.width inside.len at c.args.rows (λ j. c.args.code) words new c.self.invariant len c.fill_run.ensures.stored (λ j l. none j (omega (arith, l, c.min-end.ensures))) each)
