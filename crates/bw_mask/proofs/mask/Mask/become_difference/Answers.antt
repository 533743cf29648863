use Rattle.std.proofs.Common.{arith, length, not, refl, ◌&&◌, ◌≡◌, ◌∙◌}
use Rattle.std.proofs.lemmas.List.{with_items_is}
use Rattle.bw_mask.specs.Masks.{AreWords}
use Rattle.bw_mask.proofs.Views.{rows_len, rows_zip, zip_words}
use Rattle.bw_mask.proofs.mask.Mask.become_difference.Goals as goal

pub invariant_of-self : goal.invariant_of-self
invariant_of-self c =
    let same_all : c.self.inside.len ≡ c.all.inside.len = grind (arith, rows_len) in
    let same_some : c.self.inside.len ≡ c.some.inside.len = grind (arith, rows_len) in
    let all : AreWords c.deref.result.now c.self.inside.len = rw (c.deref.ensures.value, same_all) c.all.invariant in
    let some : AreWords c.deref-2.result.now c.self.inside.len = rw (c.deref-2.ensures.value, same_some) c.some.invariant in
    let whole : length c.difference_words.new.out ≡ c.self.inside.words.len = c.difference_words.ensures.len ∙ c.deref_mut.ensures.len in
    let same : length c.difference_words.new.out ≡ length c.deref.result.now = omega (arith, all.count) in
    rw (with_items_is c.self.inside.words c.difference_words.new.out whole) (
    zip_words (λ a b. a && not b) refl c.self.inside.len c.deref.result.now c.deref-2.result.now c.difference_words.new.out all some same (λ i h. c.difference_words.ensures.rows i (omega (arith, same, c.difference_words.ensures.len))))

pub returns-clause-rows : goal.returns-clause-rows
returns-clause-rows c i =
    let same_all : c.self.inside.len ≡ c.all.inside.len = grind (arith, rows_len) in
    let same_some : c.self.inside.len ≡ c.some.inside.len = grind (arith, rows_len) in
    let all : AreWords c.deref.result.now c.self.inside.len = rw (c.deref.ensures.value, same_all) c.all.invariant in
    let some : AreWords c.deref-2.result.now c.self.inside.len = rw (c.deref-2.ensures.value, same_some) c.some.invariant in
    let whole : length c.difference_words.new.out ≡ c.self.inside.words.len = c.difference_words.ensures.len ∙ c.deref_mut.ensures.len in
    let same : length c.difference_words.new.out ≡ length c.deref.result.now = omega (arith, all.count) in
    rw (with_items_is c.self.inside.words c.difference_words.new.out whole, ← c.all.view_is, ← c.some.view_is, ← same_all, ← same_some, ← c.deref.ensures.value, ← c.deref-2.ensures.value) (
    rows_zip (λ a b. a && not b) refl c.self.inside.len c.deref.result.now c.deref-2.result.now c.difference_words.new.out all some same (λ j h. c.difference_words.ensures.rows j (omega (arith, same, c.difference_words.ensures.len))) i)
