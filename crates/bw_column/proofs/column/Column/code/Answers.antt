use Rattle.std.proofs.Common.{arith, ◌<◌, ◌∙◌}
use Rattle.bw_code.specs.Columns.{count}
use Rattle.bw_code.proofs.Lists.{made_len}
use Rattle.bw_column.specs.Storing.{list_of}
use Rattle.bw_column.proofs.Rows.{row_code}
use Rattle.bw_column.proofs.column.Column.code.Goals as goal

pub returns : goal.returns
returns c =
    let s = c.self.inside in
    let low : c.args.i < count (list_of s.codes) = grind (arith, made_len) in
    rw (← c.self.view_is) (c.then_some.ensures ∙ rw (c.get.ensures, c.get-2.ensures.code) (row_code s.encoding (list_of s.codes) s.nonnull c.self.invariant c.args.i low))
