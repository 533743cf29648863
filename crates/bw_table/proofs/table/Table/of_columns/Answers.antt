use Rattle.std.proofs.Common.{map, sym, ◌∙◌}
use Rattle.std.proofs.lemmas.List.{length-map}
use Rattle.bw_code.specs.Types.{IsTyped}
use Rattle.bw_table.proofs.Opened.{opened_columns, opened_fitted, opened_headers, opened_held, opened_slots}
use Rattle.bw_table.proofs.Typed.{zipped_long}
use Rattle.bw_table.proofs.table.Table.of_columns.Goals as goal

pub invariant_of-slots : goal.invariant_of-slots
invariant_of-slots g c =
    let cells = map g.C.Cells.cells c.args.columns.now in
    let wide = zipped_long IsTyped c.args.headers.items cells c.requires.typed in
    opened_columns c.args.headers.items cells c.in_ok-columns.columns.items c.in_ok-filled.field-0 c.args.rows wide c.requires.long c.requires.few c.in_ok-columns.ensures c.in_ok-filled.ensures (opened_held c.args.headers.items cells c.requires.held c.requires.typed)

pub invariant_of-result : goal.invariant_of-result
invariant_of-result g c =
    let cells = map g.C.Cells.cells c.args.columns.now in
    let wide = zipped_long IsTyped c.args.headers.items cells c.requires.typed in
    opened_headers c.args.headers.items cells c.in_ok-columns.columns.items c.in_ok-filled.field-0 c.args.rows wide c.requires.long c.requires.few c.in_ok-columns.ensures c.in_ok-filled.ensures c.requires.held c.requires.typed

pub returns-clause-slots : goal.returns-clause-slots
returns-clause-slots g c =
    let cells = map g.C.Cells.cells c.args.columns.now in
    let wide = zipped_long IsTyped c.args.headers.items cells c.requires.typed in
    opened_slots c.args.headers.items cells c.in_ok-columns.columns.items c.in_ok-filled.field-0 c.args.rows wide c.requires.long c.requires.few c.in_ok-columns.ensures c.in_ok-filled.ensures

pub returns-clause-encodings : goal.returns-clause-encodings
returns-clause-encodings g c =
    let cells = map g.C.Cells.cells c.args.columns.now in
    let wide = zipped_long IsTyped c.args.headers.items cells c.requires.typed in
    opened_fitted c.args.headers.items cells c.in_ok-columns.columns.items c.in_ok-filled.field-0 c.args.rows wide c.requires.long c.requires.few c.in_ok-columns.ensures c.in_ok-filled.ensures

pub columns_of-requires-clause-wide : goal.columns_of-requires-clause-wide
columns_of-requires-clause-wide g c =
    let cells = map g.C.Cells.cells c.args.columns.now in
    sym (length-map c.args.columns.now g.C.Cells.cells) ∙ zipped_long IsTyped c.args.headers.items cells c.requires.typed

pub columns_of-requires-clause-held : goal.columns_of-requires-clause-held
columns_of-requires-clause-held g c =
    let cells = map g.C.Cells.cells c.args.columns.now in
    opened_held c.args.headers.items cells c.requires.held c.requires.typed
