use Rattle.std.proofs.Common.{ap, ◌∙◌}
use Rattle.bw_code.specs.Columns.{CodeList}
use Rattle.bw_column.specs.Storing.{list_of}
use Rattle.bw_column.proofs.Scans.{all_codes}
use Rattle.bw_column.proofs.column.Column.storage.Goals as goal

pub returns-clause-codes : goal.returns-clause-codes
returns-clause-codes c =
    let s = c.self.inside in
    rw (← c.self.view_is) (ap (λ (list : CodeList). list.codes) c.lent.ensures.codes ∙ all_codes s.encoding (list_of s.codes) s.nonnull c.self.invariant)
