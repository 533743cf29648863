use Rattle.std.proofs.Common.{arith, refl, sym, ◌≡◌, ◌∙◌}
use Rattle.bw_mask.specs.Masks.{row_in}
use Rattle.bw_mask.proofs.Views.{rows_clean, rows_len}
use Rattle.bw_mask.proofs.mask.Mask.is_within.Goals as goal

pub is_within-requires : goal.is_within-requires
is_within-requires c =
    let same : c.self.inside.len ≡ c.other.inside.len = grind (arith, rows_len) in
    rw (c.deref.ensures.value, c.deref-2.ensures.value, c.self.invariant.count, c.other.invariant.count, same) refl

pub returns : goal.returns
returns c =
    let own = rows_clean c.self.inside.len (row_in c.self.inside.words.items) c.self.invariant.clean in
    let others = rows_clean c.other.inside.len (row_in c.other.inside.words.items) c.other.invariant.clean in
    let within = rw (c.deref.ensures.value, c.deref-2.ensures.value) at c.is_within.ensures in
    rw (← c.self.view_is, ← c.other.view_is) (
      λ set i e. others i ∙ within.0 set i (sym (own i) ∙ e),
      λ all. within.1 (λ i e. sym (others i) ∙ all i (own i ∙ e)),
    )
