use Rattle.std.proofs.Common.{◌≡◌, refl, ◌∙◌, arith, ◌&&◌}
use Rattle.std.proofs.lemmas.List.{with_items_is}
use Rattle.bw_mask.proofs.Views.{rows_len, rows_zip}
use Rattle.bw_mask.proofs.mask.Mask.and_in.Goals as goal

pub returns-clause-rows : goal.returns-clause-rows
returns-clause-rows c i =
    let same : c.self.inside.len ≡ c.other.inside.len = grind (arith, rows_len) in
    rw (with_items_is c.self.inside.words c.and_words.new.a (c.and_words.ensures.len ∙ c.deref_mut.ensures.len), ← c.self.view_is, ← c.other.view_is, ← same, ← c.deref_mut.ensures.value, ← c.deref.ensures.value) (
    rows_zip (λ a b. a && b) refl c.self.inside.len c.deref_mut.result.now c.deref.result.now c.and_words.new.a
    (rw c.deref_mut.ensures.value c.self.invariant) (rw (c.deref.ensures.value, same) c.other.invariant) c.and_words.ensures.len c.and_words.ensures.rows i)
