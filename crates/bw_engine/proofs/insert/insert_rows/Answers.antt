use Rattle.std.proofs.Common.{◌≡◌, ◌∙◌, ◌<◌, ◌++◌, None, ap, arith, inl, length, map, refl, subst}
use Rattle.std.specs.List.{list_all}
use Rattle.std.proofs.lemmas.Bool.{not-false}
use Rattle.std.proofs.lemmas.List.{length-map}
use Rattle.bw_table.specs.Rows.{rows_from}
use Rattle.bw_model.specs.Insert.{row_for, target_columns, with_rows}
use Rattle.bw_model.specs.Refusals.{first_that_holds, insert_tests, types_named}
use Rattle.bw_model.specs.declared.reply.Reply.TheVariants.{Count}
use Rattle.bw_code.specs.Types.{are_of_types}
use Rattle.bw_model.proofs.Kept.{new_rows}
use Rattle.bw_model.proofs.Passing.{none_holds}
use Rattle.bw_plan.proofs.Tests.{passed_on}
use Rattle.bw_engine.specs.Stores.{rows_in, table_in}
use Rattle.bw_engine.proofs.Added.{added_tests, may_same, room_left}
use Rattle.bw_engine.proofs.Inserted.{cells_rows, whole_cells}
use Rattle.bw_engine.proofs.insert.insert_rows.Goals as goal

pub returns-in_err-cells-clause-reply : goal.returns-in_err-cells-clause-reply
returns-in_err-cells-clause-reply c =
    let table = c.args.table.now in
    let listed = c.args.columns.now in
    let targets = target_columns table.headers listed in
    let rows = c.args.rows in
    passed_on (insert_tests targets rows (table_in table)) c.from_residual.result (λ reply. (reply ≡ Count (length rows)) × (table_in table ≡ with_rows listed rows (table_in table))) _
    (may_same _ _ _ (added_tests targets rows (table_in table) c.room.result c.room.ensures) (rw c.headers.ensures.value at c.in_err-cells.ensures))
    c.from_residual.ensures.1

pub new-requires : goal.new-requires
new-requires c =
    let table = c.args.table.now in
    let headers = table.headers in
    let targets = target_columns headers c.args.columns.now in
    let rows = c.args.rows in
    let fits = rw c.headers.ensures.value at c.in_ok-cells.ensures in
    let same : c.len-width.result ≡ length headers = c.len-width.ensures.count ∙ ap length c.headers-2.ensures.value in
    let some : 0 < c.len-width.result = omega (arith, same, c.headers.ensures.valid.some) in
    rw c.as_slice.ensures.value (whole_cells headers targets c.len-width.result rows c.in_ok-cells.cells.items same some fits.1)

pub insert-requires-clause-typed : goal.insert-requires-clause-typed
insert-requires-clause-typed c =
    let table = c.args.table.now in
    let headers = table.headers in
    let targets = target_columns headers c.args.columns.now in
    let rows = c.args.rows in
    let fits = rw c.headers.ensures.value at c.in_ok-cells.ensures in
    let same : c.len-width.result ≡ length headers = c.len-width.ensures.count ∙ ap length c.headers-2.ensures.value in
    let some : 0 < c.len-width.result = omega (arith, same, c.headers.ensures.valid.some) in
    let is : c.new.result ≡ map (row_for headers targets) rows =
    c.new.ensures ∙ ap (rows_from c.len-width.result) c.as_slice.ensures.value ∙ cells_rows headers targets c.len-width.result rows c.in_ok-cells.cells.items same some fits.1 in
    let none = subst (λ tests. first_that_holds tests ≡ None) (added_tests targets rows (table_in table) c.room.result c.room.ensures) fits.0 in
    rw is (new_rows headers c.headers.ensures.valid.distinct targets rows (not-false (list_all (are_of_types (types_named headers targets)) rows) (none_holds (insert_tests targets rows (table_in table)) none).1.1.1.0))

pub insert-requires-clause-room : goal.insert-requires-clause-room
insert-requires-clause-room c =
    let table = c.args.table.now in
    let headers = table.headers in
    let targets = target_columns headers c.args.columns.now in
    let rows = c.args.rows in
    let fits = rw c.headers.ensures.value at c.in_ok-cells.ensures in
    let same : c.len-width.result ≡ length headers = c.len-width.ensures.count ∙ ap length c.headers-2.ensures.value in
    let some : 0 < c.len-width.result = omega (arith, same, c.headers.ensures.valid.some) in
    let is : c.new.result ≡ map (row_for headers targets) rows =
    c.new.ensures ∙ ap (rows_from c.len-width.result) c.as_slice.ensures.value ∙ cells_rows headers targets c.len-width.result rows c.in_ok-cells.cells.items same some fits.1 in
    let none = subst (λ tests. first_that_holds tests ≡ None) (added_tests targets rows (table_in table) c.room.result c.room.ensures) fits.0 in
    omega (arith, room_left targets rows (table_in table) none, ap length is, length-map rows (row_for headers targets))

pub returns-in_err-insert-clause-reply : goal.returns-in_err-insert-clause-reply
returns-in_err-insert-clause-reply c =
    let table = c.args.table.now in
    let targets = target_columns table.headers c.args.columns.now in
    let rows = c.args.rows in
    let fits = rw c.headers.ensures.value at c.in_ok-cells.ensures in
    let none = subst (λ tests. first_that_holds tests ≡ None) (added_tests targets rows (table_in table) c.room.result c.room.ensures) fits.0 in
    passed_on (insert_tests targets rows (table_in table)) c.from_residual-in_err-insert.result _ _ (inl (none, refl)) c.from_residual-in_err-insert.ensures.1

pub returns-clause-reply : goal.returns-clause-reply
returns-clause-reply c =
    let table = c.args.table.now in
    let headers = table.headers in
    let targets = target_columns headers c.args.columns.now in
    let rows = c.args.rows in
    let fits = rw c.headers.ensures.value at c.in_ok-cells.ensures in
    let same : c.len-width.result ≡ length headers = c.len-width.ensures.count ∙ ap length c.headers-2.ensures.value in
    let some : 0 < c.len-width.result = omega (arith, same, c.headers.ensures.valid.some) in
    let is : c.new.result ≡ map (row_for headers targets) rows =
    c.new.ensures ∙ ap (rows_from c.len-width.result) c.as_slice.ensures.value ∙ cells_rows headers targets c.len-width.result rows c.in_ok-cells.cells.items same some fits.1 in
    let none = subst (λ tests. first_that_holds tests ≡ None) (added_tests targets rows (table_in table) c.room.result c.room.ensures) fits.0 in
    let stored = c.in_ok-insert.ensures.rows ∙ ap (λ l. rows_in table.slots ++ l) is in (
      none,
      (ap (λ n. Count n) c.len-count.ensures, λ j. record { headers = c.insert.ensures.headers j; rows = stored j }),
    )

pub returns-clause-stored : goal.returns-clause-stored
returns-clause-stored c = record { rows = c.new.result; inserted = c.in_ok-insert.ensures.inserted }
