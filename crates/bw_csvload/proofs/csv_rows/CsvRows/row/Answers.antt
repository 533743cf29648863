use Rattle.std.proofs.Common.{[], ap, arith, drop, get_or, length, sym, take, ◌*◌, ◌<◌, ◌∙◌}
use Rattle.bw_csvload.specs.Forms.{cells_in}
use Rattle.bw_csvload.proofs.Lines.{length-lines_of, line_at, row_within}
use Rattle.bw_csvload.proofs.csv_rows.CsvRows.row.Goals as goal

pub line-requires : goal.line-requires
line-requires c =
    let rows = c.self.inside in
    let within : c.args.i < rows.count = omega (arith, ap length c.self.view_is, length-lines_of rows.width rows.count (cells_in rows.cells)) in
    omega (arith, row_within rows.width rows.count c.args.i within, ap length c.in-Integers.ensures, c.self.invariant)

pub line-requires-in-Values : goal.line-requires-in-Values
line-requires-in-Values c =
    let rows = c.self.inside in
    let within : c.args.i < rows.count = omega (arith, ap length c.self.view_is, length-lines_of rows.width rows.count (cells_in rows.cells)) in
    omega (arith, row_within rows.width rows.count c.args.i within, ap length c.in-Values.ensures, c.self.invariant)

pub returns-in-Integers : goal.returns-in-Integers
returns-in-Integers c =
    let rows = c.self.inside in
    let within : c.args.i < rows.count = omega (arith, ap length c.self.view_is, length-lines_of rows.width rows.count (cells_in rows.cells)) in
    c.line.ensures
    ∙ ap (λ cells. take rows.width (drop (c.args.i * rows.width) cells)) c.in-Integers.ensures
    ∙ sym (line_at rows.width rows.count c.args.i (cells_in rows.cells) within)
    ∙ ap (λ rows. get_or rows c.args.i []) c.self.view_is

pub returns-in-Values : goal.returns-in-Values
returns-in-Values c =
    let rows = c.self.inside in
    let within : c.args.i < rows.count = omega (arith, ap length c.self.view_is, length-lines_of rows.width rows.count (cells_in rows.cells)) in
    c.line-in-Values.ensures
    ∙ ap (λ cells. take rows.width (drop (c.args.i * rows.width) cells)) c.in-Values.ensures
    ∙ sym (line_at rows.width rows.count c.args.i (cells_in rows.cells) within)
    ∙ ap (λ rows. get_or rows c.args.i []) c.self.view_is
