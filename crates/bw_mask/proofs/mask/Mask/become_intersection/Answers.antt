use Rattle.std.proofs.Common.{arith, length, refl, ◌&&◌, ◌≡◌, ◌∙◌}
use Rattle.std.proofs.lemmas.List.{with_items_is}
use Rattle.bw_mask.specs.Masks.{AreWords}
use Rattle.bw_mask.proofs.Views.{rows_len, rows_zip, zip_words}
use Rattle.bw_mask.proofs.mask.Mask.become_intersection.Goals as goal

pub invariant_of-self : goal.invariant_of-self
invariant_of-self c =
    let same_a : c.self.inside.len ≡ c.a.inside.len = grind (arith, rows_len) in
    let same_b : c.self.inside.len ≡ c.b.inside.len = grind (arith, rows_len) in
    let in_a : AreWords c.deref.result.now c.self.inside.len = rw (c.deref.ensures.value, same_a) c.a.invariant in
    let in_b : AreWords c.deref-2.result.now c.self.inside.len = rw (c.deref-2.ensures.value, same_b) c.b.invariant in
    let whole : length c.intersection_words.new.out ≡ c.self.inside.words.len = c.intersection_words.ensures.len ∙ c.deref_mut.ensures.len in
    let same : length c.intersection_words.new.out ≡ length c.deref.result.now = omega (arith, in_a.count) in
    rw (with_items_is c.self.inside.words c.intersection_words.new.out whole) (
    zip_words (λ a b. a && b) refl c.self.inside.len c.deref.result.now c.deref-2.result.now c.intersection_words.new.out in_a in_b same (λ i h. c.intersection_words.ensures.rows i (omega (arith, same, c.intersection_words.ensures.len))))

pub returns-clause-rows : goal.returns-clause-rows
returns-clause-rows c i =
    let same_a : c.self.inside.len ≡ c.a.inside.len = grind (arith, rows_len) in
    let same_b : c.self.inside.len ≡ c.b.inside.len = grind (arith, rows_len) in
    let in_a : AreWords c.deref.result.now c.self.inside.len = rw (c.deref.ensures.value, same_a) c.a.invariant in
    let in_b : AreWords c.deref-2.result.now c.self.inside.len = rw (c.deref-2.ensures.value, same_b) c.b.invariant in
    let whole : length c.intersection_words.new.out ≡ c.self.inside.words.len = c.intersection_words.ensures.len ∙ c.deref_mut.ensures.len in
    let same : length c.intersection_words.new.out ≡ length c.deref.result.now = omega (arith, in_a.count) in
    rw (with_items_is c.self.inside.words c.intersection_words.new.out whole, ← c.a.view_is, ← c.b.view_is, ← same_a, ← same_b, ← c.deref.ensures.value, ← c.deref-2.ensures.value) (
    rows_zip (λ a b. a && b) refl c.self.inside.len c.deref.result.now c.deref-2.result.now c.intersection_words.new.out in_a in_b same (λ j h. c.intersection_words.ensures.rows j (omega (arith, same, c.intersection_words.ensures.len))) i)
