use Rattle.std.proofs.Common.{◌≡◌, ◌∙◌, ap, length, map}
use Rattle.std.specs.List.{All}
use Rattle.std.proofs.lemmas.Result.{IfOk-weaker}
use Rattle.bw_file.specs.declared.version.Version.TheVariants.{Second}
use Rattle.bw_model.specs.Filing.{HoldsBy}
use Rattle.bw_engine.specs.Saving.{saved_cells}
use Rattle.bw_engine.specs.Stores.{rows_in, table_in}
use Rattle.bw_engine.proofs.Saved.{filed_long, holds_stored}
use Rattle.bw_engine.proofs.save.spelled.Goals as goal

pub encode-requires-clause-headers : goal.encode-requires-clause-headers
encode-requires-clause-headers c = rw (c.headers.ensures.is, c.stored-2.ensures) c.headers-valid.ensures.valid

pub encode-requires-clause-long : goal.encode-requires-clause-long
encode-requires-clause-long c =
    rw c.deref.ensures.value (filed_long c.in_ok-columns.columns.items (rows_in c.args.table.now.slots) (length c.args.table.now.headers) c.row_count.result c.in_ok-columns.ensures.cells c.row_count.ensures.value)

pub encode-requires-clause-typed : goal.encode-requires-clause-typed
encode-requires-clause-typed c = rw (c.headers.ensures.is, c.stored-2.ensures, c.deref.ensures.value) c.in_ok-columns.ensures.typed

pub returns : goal.returns
returns c =
    let table = c.args.table.now in
    let is : c.headers.result.now ≡ table.headers = rw c.stored-2.ensures at c.headers.ensures.is in
    let wide : All (λ slot. length slot.row ≡ length table.headers) table.slots = rw c.stored.ensures at c.live-wide.ensures.wide in
    IfOk-weaker c.encode.result _ (λ bytes. HoldsBy Second bytes.items (table_in table)) (λ bytes spells.
    holds_stored bytes.items table c.headers.result.now c.row_count.result (map saved_cells c.deref.result.now) is c.row_count.ensures.value (ap (map saved_cells) c.deref.ensures.value ∙ c.in_ok-columns.ensures.cells) wide spells) c.encode.ensures
