use Rattle.std.proofs.Common.{ap, arith, length, ◌<◌, ◌≡◌, ◌∙◌}
use Rattle.bw_horizontal.proofs.Views.{codes_set, count_is, row_there, words_set, written}
use Rattle.bw_horizontal.proofs.column.HorizontalColumnCodeColumn.set.Goals as goal

pub put-requires-clause-there : goal.put-requires-clause-there
put-requires-clause-there c =
    let inside = c.self.inside in
    let low : c.args.i < inside.len = grind (arith, count_is) in
    rw (c.of.ensures.width, c.of.ensures.row, c.deref_mut.ensures.value) (row_there inside.width inside.len inside.words.items c.self.invariant c.args.i low)

pub invariant_of-self : goal.invariant_of-self
invariant_of-self c =
    let inside = c.self.inside in
    let words = inside.words.items in
    let new = c.put.new.words in
    let low : c.args.i < inside.len = grind (arith, count_is) in
    let len : length new ≡ length words = c.put.ensures.len ∙ ap length c.deref_mut.ensures.value in
    let stored = rw c.of.ensures.width at c.put.ensures.stored in
    let each = rw (c.of.ensures.width, c.of.ensures.row, c.deref_mut.ensures.value) at c.put.ensures.codes in
    rw (written inside.words.len new words (omega (arith, len))) (words_set inside.width inside.len c.args.i c.args.code words new c.self.invariant low len stored each)

pub returns-clause-codes : goal.returns-clause-codes
returns-clause-codes c =
    let inside = c.self.inside in
    let words = inside.words.items in
    let new = c.put.new.words in
    let low : c.args.i < inside.len = grind (arith, count_is) in
    let len : length new ≡ length words = c.put.ensures.len ∙ ap length c.deref_mut.ensures.value in
    let stored = rw c.of.ensures.width at c.put.ensures.stored in
    let each = rw (c.of.ensures.width, c.of.ensures.row, c.deref_mut.ensures.value) at c.put.ensures.codes in
    rw (written inside.words.len new words (omega (arith, len)), ← c.self.view_is) (codes_set inside.width inside.len c.args.i c.args.code words new c.self.invariant low len stored each)
