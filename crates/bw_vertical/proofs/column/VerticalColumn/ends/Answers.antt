use Rattle.std.proofs.Common.{ap, get_or, subst, sym, ℕ, ◌∙◌}
use Rattle.bw_mask.specs.Masks.{row_at}
use Rattle.bw_code.specs.Columns.{count}
use Rattle.bw_vertical.specs.Descents.{AreCodeEnds}
use Rattle.bw_vertical.specs.Storage.{code_of, codes_of, lists}
use Rattle.bw_vertical.proofs.Descending.{same_ends}
use Rattle.bw_vertical.proofs.Holding.{codes_at, codes_len}
use Rattle.bw_vertical.proofs.column.VerticalColumn.ends.Goals as goal

pub code_ends-requires-clause-rows : goal.code_ends-requires-clause-rows
code_ends-requires-clause-rows c =
    let s = c.self.inside in
    c.requires.rows ∙ ap count (sym c.self.view_is) ∙ codes_len s.width s.len (lists s.groups.items)

pub returns : goal.returns
returns c =
    let s = c.self.inside in
    let k = s.width in
    let n = s.len in
    let gs = lists s.groups.items in
    let has = row_at c.args.rows.now in
    let ends = c.code_ends.result in
    let code = λ (i : ℕ). get_or (codes_of k gs n) i 0 in
    let found = subst (λ vs. AreCodeEnds has (code_of k (lists vs)) n ends) c.deref.ensures.value c.code_ends.ensures in
    rw (← c.self.view_is) (
    subst (λ m. AreCodeEnds has code m ends) (sym (codes_len k n gs)) (same_ends has (code_of k gs) code n ends (λ i h on. sym (codes_at k n gs c.self.invariant i)) found))
