use Rattle.std.proofs.Common.{sym, ◌∙◌}
use Rattle.bw_mask.proofs.Views.{rows_clean}
use Rattle.bw_mask.specs.Masks.{row_in}
use Rattle.bw_mask.proofs.Nexts.{any_is, none_from}
use Rattle.bw_mask.proofs.mask.Mask.any.Goals as goal

pub returns-clause-rows : goal.returns-clause-rows
returns-clause-rows c = rw (← c.self.view_is) (c.is_some.ensures ∙ any_is c.self.inside.len (row_in c.self.inside.words.items) c.self.invariant.clean c.next_row.result (rw c.deref.ensures.value at c.next_row.ensures))

pub returns-clause-none : goal.returns-clause-none
returns-clause-none c none i = rw (← c.self.view_is) (rows_clean c.self.inside.len (row_in c.self.inside.words.items) c.self.invariant.clean i ∙ none_from (row_in c.self.inside.words.items) c.next_row.result (rw c.deref.ensures.value at c.next_row.ensures) (sym c.is_some.ensures ∙ none) i)
