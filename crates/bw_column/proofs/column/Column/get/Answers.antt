use Rattle.std.proofs.Common.{None, arith, subst, sym, ◌<◌, ◌≡◌, ◌∙◌}
use Rattle.bw_code.specs.Columns.{count}
use Rattle.bw_code.proofs.Lists.{made_len}
use Rattle.bw_column.specs.Codes.{values_from}
use Rattle.bw_column.specs.Storing.{layout_of, list_of}
use Rattle.bw_column.specs.Values.{IsNullOrHeld, value_at}
use Rattle.bw_column.proofs.Rows.{value_of_row}
use Rattle.bw_column.proofs.column.Column.get.Goals as goal

is : (c : goal.After-value) → c.value.result ≡ value_at (values_from c.self.inside.encoding (list_of c.self.inside.codes) c.self.inside.nonnull) c.args.i
is c = c.value.ensures ∙ rw (c.get.ensures.code, c.get-2.ensures) (sym (value_of_row c.self.inside.encoding (list_of c.self.inside.codes) c.self.inside.nonnull c.self.invariant c.args.i))

pub returns-clause-is : goal.returns-clause-is
returns-clause-is c = rw (← c.self.view_is) (is c)

pub returns-clause-held : goal.returns-clause-held
returns-clause-held c =
    let low : c.args.i < count (list_of c.self.inside.codes) = grind (arith, made_len) in
    rw (← c.self.view_is) (subst (IsNullOrHeld (layout_of c.self.inside.codes)) (sym (is c)) (c.self.invariant.held c.args.i None (omega (arith, low, made_len))))
