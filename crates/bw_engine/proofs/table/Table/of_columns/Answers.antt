use Rattle.std.proofs.Common.{◌∙◌, ap, length, map, sym}
use Rattle.std.proofs.lemmas.Slice.Zip.{AllZip-long}
use Rattle.bw_code.specs.Types.{IsTyped}
use Rattle.bw_engine.proofs.NewTables.{opened_new}
use Rattle.bw_engine.proofs.table.Table.of_columns.Goals as goal

pub returns-clause-is_new : goal.returns-clause-is_new
returns-clause-is_new g c =
    let cells = map g.C.Cells.cells c.args.columns.now in
    let wide = AllZip-long IsTyped c.args.headers.items cells c.requires.typed ∙ ap length (sym c.in_ok-of_columns.ensures.headers) in
    opened_new c.in_ok-of_columns.field-0 c.args.rows cells wide c.requires.long c.in_ok-of_columns.ensures.slots c.in_ok-of_columns.ensures.encodings
