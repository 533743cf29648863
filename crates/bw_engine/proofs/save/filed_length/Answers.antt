use Rattle.std.proofs.Common.{ap, arith, length, sym, ◌∙◌, ◌≡◌}
use Rattle.std.specs.Prelude.{map}
use Rattle.std.specs.List.{All, range_with_len}
use Rattle.std.proofs.lemmas.List.{length-map}
use Rattle.std.proofs.lemmas.List.FromFn.{length-map-range_with_len}
use Rattle.std.proofs.lemmas.Slice.Zip.{AllZip-long}
use Rattle.bw_file.specs.Format.{AreEndsOf, spelled_length}
use Rattle.bw_file.specs.declared.version.Version.TheVariants.{Second}
use Rattle.bw_model.specs.Filing.{column_of}
use Rattle.bw_model.specs.Store.{Row, value_at}
use Rattle.bw_model.proofs.Lines.{All-map}
use Rattle.bw_engine.specs.Stores.{rows_in}
use Rattle.bw_engine.proofs.save.filed_length.Goals as goal

pub returns : goal.returns
returns c =
    let table = c.args.table.now in
    let rows = rows_in table.slots in
    let columns = map (column_of rows) (range_with_len 0 (length table.headers)) in
    let heads : c.headers.result.now ≡ table.headers = c.headers.ensures.is ∙ ap (λ t. t.headers) c.stored.ensures in
    let long : All (λ cells. length cells ≡ c.row_count.result) columns =
    All-map (column_of rows) c.row_count.result (range_with_len 0 (length table.headers)) (λ k. length-map rows (λ (row : Row). value_at row k) ∙ sym c.row_count.ensures.value) in
    c.length_by_ends.ensures columns long c.requires
    ∙ (λ j. spelled_length Second (record { headers = heads j; rows = c.row_count.ensures.value j; columns = columns }))

pub length_by_ends-requires-clause-some : goal.length_by_ends-requires-clause-some
length_by_ends-requires-clause-some c =
    let table = c.args.table.now in
    let rows = rows_in table.slots in
    let columns = map (column_of rows) (range_with_len 0 (length table.headers)) in
    omega (arith, AllZip-long AreEndsOf c.args.ends.now columns c.requires, length-map-range_with_len (column_of rows) 0 (length table.headers), c.headers-few.ensures.valid.few)
