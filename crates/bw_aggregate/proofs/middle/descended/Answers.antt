use Rattle.std.proofs.Common.{subst, sym, ◌∙◌}
use Rattle.bw_aggregate.specs.Descending.{IsDescent}
use Rattle.bw_aggregate.proofs.middle.descended.Goals as goal

pub returns-in-V : goal.returns-in-V
returns-in-V c held n on =
    let column = c.args.column.now in
    let lent = rw c.in-V.is at c.storage.ensures in
    let here = subst (λ xs. IsDescent xs held n c.args.bits c.args.descent) (sym lent.codes) on in
    let wide = subst (λ k. IsDescent c.in-V.codes.now.codes held n k c.args.descent) (c.requires ∙ sym lent.width) here in
    subst (λ xs. IsDescent xs held n 0 c.descend_in_place.new.descent) lent.codes (c.descend_in_place.ensures held n wide)
