use Rattle.std.proofs.Common.{All, ap, arith, length, sym, ◌+◌, ◌<◌, ◌∙◌, ◌≡◌, ◌≤◌}
use Rattle.bw_table.specs.Rows.{cells_in, rows_from}
use Rattle.bw_table.proofs.Flat.{column_part, column_there}
use Rattle.bw_table.proofs.rows.Rows.read_column.Goals as goal

pub returns-in-Values : goal.returns-in-Values
returns-in-Values c =
    let width = c.self.inside.width in
    let cells = c.in-Values.cells.now in
    let view : rows_from width cells ≡ c.args.self.now = ap (λ r. rows_from width (cells_in r)) (sym c.in-Values.is) ∙ c.self.view_is in
    let wide : All (λ row. c.args.k < length row) (rows_from width cells) = rw view c.requires.column in
    let long = c.read_values.ensures.long in
    let fits : c.args.at + length c.read_values.new.out ≤ length (rows_from width cells) = omega (arith, ap length view, c.requires.inside, long) in
    rw (← long, ← view) (column_part width cells c.args.k wide c.args.at c.read_values.new.out fits (λ i h. c.read_values.ensures.each i (omega (arith, h, long))))

pub returns-in-Integers : goal.returns-in-Integers
returns-in-Integers c =
    let width = c.self.inside.width in
    let cells = c.in-Integers.cells.now in
    let view : rows_from width cells ≡ c.args.self.now = ap (λ r. rows_from width (cells_in r)) (sym c.in-Integers.is) ∙ c.self.view_is in
    let wide : All (λ row. c.args.k < length row) (rows_from width cells) = rw view c.requires.column in
    let long = c.read_integers.ensures.long in
    let fits : c.args.at + length c.read_integers.new.out ≤ length (rows_from width cells) = omega (arith, ap length view, c.requires.inside, long) in
    rw (← long, ← view) (column_part width cells c.args.k wide c.args.at c.read_integers.new.out fits (λ i h. c.read_integers.ensures.each i (omega (arith, h, long))))

pub read_values-requires-clause-there : goal.read_values-requires-clause-there
read_values-requires-clause-there c =
    let width = c.self.inside.width in
    let cells = c.in-Values.cells.now in
    let view : rows_from width cells ≡ c.args.self.now = ap (λ r. rows_from width (cells_in r)) (sym c.in-Values.is) ∙ c.self.view_is in
    let wide : All (λ row. c.args.k < length row) (rows_from width cells) = rw view c.requires.column in
    λ i h. column_there width cells c.args.k wide (c.args.at + i) (omega (arith, ap length view, c.requires.inside, h))

pub read_integers-requires-clause-there : goal.read_integers-requires-clause-there
read_integers-requires-clause-there c =
    let width = c.self.inside.width in
    let cells = c.in-Integers.cells.now in
    let view : rows_from width cells ≡ c.args.self.now = ap (λ r. rows_from width (cells_in r)) (sym c.in-Integers.is) ∙ c.self.view_is in
    let wide : All (λ row. c.args.k < length row) (rows_from width cells) = rw view c.requires.column in
    λ i h. column_there width cells c.args.k wide (c.args.at + i) (omega (arith, ap length view, c.requires.inside, h))
