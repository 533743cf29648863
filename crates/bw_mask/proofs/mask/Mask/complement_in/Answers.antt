use Rattle.std.proofs.Common.{◌<◌, ap, ◌∙◌, arith}
use Rattle.std.proofs.lemmas.List.{with_items_is}
use Rattle.bw_mask.specs.Masks.{row_in}
use Rattle.bw_mask.proofs.Views.{rows_len, rows_at}
use Rattle.bw_mask.proofs.mask.Mask.complement_in.Goals as goal

pub returns-clause-rows : goal.returns-clause-rows
returns-clause-rows c i h =
    let low : i < c.self.inside.len = grind (arith, rows_len) in
    let same = c.not_words.ensures.len ∙ c.deref_mut.ensures.len in
    rw (← c.self.view_is, rows_at c.self.inside.len (row_in c.cut.new.words.items) i low, rows_at c.self.inside.len (row_in c.self.inside.words.items) i low, ← c.deref_mut.ensures.value) (
    c.cut.ensures.kept i low ∙ ap (λ ws. row_in ws i) (with_items_is c.self.inside.words c.not_words.new.a same) ∙ c.not_words.ensures.rows i (omega arith))
