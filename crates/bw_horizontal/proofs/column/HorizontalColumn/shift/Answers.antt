use Rattle.std.proofs.Common.{FitsSigned, ap, arith, length, of_z, sym, to_z, w64, ℕ, ℤ, ◌-ℤ◌, ◌≡◌, ◌∙◌}
use Rattle.std.proofs.lemmas.Int.{to_z-of_z}
use Rattle.bw_mask.specs.Masks.{len}
use Rattle.bw_code.specs.Columns.{count}
use Rattle.bw_code.specs.Shifts.{IsWord}
use Rattle.bw_horizontal.proofs.Shifted.{codes_shifted, words_shifted}
use Rattle.bw_horizontal.proofs.Views.{count_is, written}
use Rattle.bw_horizontal.proofs.column.HorizontalColumn.shift.Goals as goal

word : (from to : ℤ) (r : ℕ) → FitsSigned w64 from → FitsSigned w64 to → IsWord (to_z w64 (of_z w64 from) -ℤ to_z w64 (of_z w64 to)) r → IsWord (from -ℤ to) r
word from to r f t is code sum p q e = is code sum p q (rw (to_z-of_z w64 from f, to_z-of_z w64 to t) e)

pub shift_codes-requires-clause-count : goal.shift_codes-requires-clause-count
shift_codes-requires-clause-count c =
    let inside = c.self.inside in
    let long : len c.args.rows.now ≡ inside.len = c.requires.rows ∙ ap count (sym c.self.view_is) ∙ count_is inside.width inside.len inside.words.items in
    rw (c.deref_mut.ensures.value, long) c.self.invariant.segments.count

pub invariant_of-self : goal.invariant_of-self
invariant_of-self c =
    let inside = c.self.inside in
    let words = inside.words.items in
    let new = c.shift_codes.new.words in
    let long : len c.args.rows.now ≡ inside.len = c.requires.rows ∙ ap count (sym c.self.view_is) ∙ count_is inside.width inside.len words in
    let count : length new ≡ length words = c.shift_codes.ensures.len ∙ ap length c.deref_mut.ensures.value in
    let each = rw c.deref_mut.ensures.value at c.shift_codes.ensures.codes in
    rw (written inside.words.len new words (omega (arith, count))) (words_shifted inside.width inside.len (c.args.from -ℤ c.args.to) c.word_between.result c.args.rows.now words new c.self.invariant long count c.shift_codes.ensures.stored each)

pub returns-clause-codes : goal.returns-clause-codes
returns-clause-codes c =
    let inside = c.self.inside in
    let words = inside.words.items in
    let new = c.shift_codes.new.words in
    let long : len c.args.rows.now ≡ inside.len = c.requires.rows ∙ ap count (sym c.self.view_is) ∙ count_is inside.width inside.len words in
    let count : length new ≡ length words = c.shift_codes.ensures.len ∙ ap length c.deref_mut.ensures.value in
    let each = rw c.deref_mut.ensures.value at c.shift_codes.ensures.codes in
    let is = word c.args.from c.args.to c.word_between.result c.ranges.from c.ranges.to c.word_between.ensures in
    let fit = rw (← c.self.view_is) at c.requires.fit in
    let few = count_is inside.width inside.len words in
    rw (written inside.words.len new words (omega (arith, count)), ← c.self.view_is) (λ i h.
    codes_shifted inside.width inside.len (c.args.from -ℤ c.args.to) c.word_between.result c.args.rows.now words new c.self.invariant long count c.shift_codes.ensures.stored each is i (omega (arith, h, few)) (fit i h))
