use Rattle.std.proofs.Common.{get_or, ◌≡◌, ◌∙◌}
use Rattle.std.proofs.lemmas.List.{get_or_default}
use Rattle.bw_vertical.specs.Storage.{code_of, codes_of, lists}
use Rattle.bw_vertical.proofs.Holding.{code_lt, codes_at}
use Rattle.bw_vertical.proofs.column.VerticalColumnCodeColumn.width.Goals as goal

pub returns-clause-fit : goal.returns-clause-fit
returns-clause-fit c =
    let k = c.self.inside.width in
    let n = c.self.inside.len in
    let gs = lists c.self.inside.groups.items in
    rw (← c.self.view_is) (λ i d h.
    let code : get_or (codes_of k gs n) i d ≡ code_of k gs i = get_or_default (codes_of k gs n) i d 0 h ∙ codes_at k n gs c.self.invariant i in
    rw code (code_lt k gs i))
