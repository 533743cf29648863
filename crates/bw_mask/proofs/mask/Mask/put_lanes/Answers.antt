use Rattle.std.proofs.Common.{arith, false, subst, sym, ℕ, ◌*◌, ◌+◌, ◌<◌, ◌≡◌, ◌≤◌, ◌∙◌}
use Rattle.std.proofs.lemmas.List.{with_items_is}
use Rattle.bw_mask.specs.Masks.{AreWords, row_in}
use Rattle.bw_mask.proofs.Views.{rows_at, rows_clean, rows_len}
use Rattle.bw_mask.proofs.mask.Mask.put_lanes.Goals as goal

pub returns-then-q-self-clause-inside : goal.returns-then-q-self-clause-inside
returns-then-q-self-clause-inside c j h l =
    let low : 256 * c.args.q + j < c.self.inside.len = grind (arith, rows_len) in
    rw (with_items_is c.self.inside.words c.put_four.new.words (c.put_four.ensures.len ∙ c.deref_mut.ensures.len)) (
    rows_at c.self.inside.len (row_in c.put_four.new.words) (256 * c.args.q + j) low ∙ c.put_four.ensures.inside j h)

pub returns-then-q-self-clause-outside : goal.returns-then-q-self-clause-outside
returns-then-q-self-clause-outside c j away =
    let held : AreWords c.deref_mut.result.now c.self.inside.len = rw c.deref_mut.ensures.value c.self.invariant in
    let clean : (i : ℕ) → c.self.inside.len ≤ i → row_in c.put_four.new.words i ≡ false =
    λ i h. c.put_four.ensures.other i (λ g. omega (arith, g, h, c.if-q-self.true)) ∙ held.clean i h in
    rw (with_items_is c.self.inside.words c.put_four.new.words (c.put_four.ensures.len ∙ c.deref_mut.ensures.len), ← c.self.view_is, ← c.deref_mut.ensures.value) (
    rows_clean c.self.inside.len (row_in c.put_four.new.words) clean j
    ∙ c.put_four.ensures.other j away
    ∙ sym (rows_clean c.self.inside.len (row_in c.deref_mut.result.now) held.clean j))
