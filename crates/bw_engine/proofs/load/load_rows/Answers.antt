use Rattle.std.proofs.Common.{◌≡◌, ◌∙◌, ◌+◌, ◌++◌, ap, arith, length}
use Rattle.std.proofs.lemmas.Bool.{le-ltb}
use Rattle.bw_model.specs.Store.{row_limit}
use Rattle.bw_model.specs.declared.refusal.Refusal.TheVariants.{TableFull}
use Rattle.bw_model.specs.declared.reply.Reply.TheVariants.{Count}
use Rattle.bw_plan.proofs.Tests.{no_test}
use Rattle.bw_engine.specs.Stores.{rows_in}
use Rattle.bw_csvload.specs.Forms.{cells_of}
use Rattle.bw_engine.proofs.Loaded.{lines_again, rows_wide, whole_lines}
use Rattle.bw_engine.proofs.load.load_rows.Goals as goal

pub rows_in-requires : goal.rows_in-requires
rows_in-requires c =
    whole_lines c.args.table.now.headers c.args.rows c.len-width.result (cells_of c.cells.result) (rows_wide c.args.table.now.headers c.args.rows c.requires) (c.len-width.ensures.count ∙ ap length c.headers.ensures.value) c.headers.ensures.valid
    c.cells.ensures

pub insert-requires-clause-typed : goal.insert-requires-clause-typed
insert-requires-clause-typed c =
    let is : c.rows_in.result ≡ c.args.rows =
    c.rows_in.ensures
    ∙ lines_again c.args.table.now.headers c.args.rows c.len-width.result (cells_of c.cells.result) (rows_wide c.args.table.now.headers c.args.rows c.requires) (c.len-width.ensures.count ∙ ap length c.headers.ensures.value) c.headers.ensures.valid
    c.cells.ensures in
    rw is c.requires

pub insert-requires-clause-room : goal.insert-requires-clause-room
insert-requires-clause-room c =
    let is : c.rows_in.result ≡ c.args.rows =
    c.rows_in.ensures
    ∙ lines_again c.args.table.now.headers c.args.rows c.len-width.result (cells_of c.cells.result) (rows_wide c.args.table.now.headers c.args.rows c.requires) (c.len-width.ensures.count ∙ ap length c.headers.ensures.value) c.headers.ensures.valid
    c.cells.ensures in
    omega (arith, ap length is)

pub returns-clause-reply : goal.returns-clause-reply
returns-clause-reply c =
    let table = c.args.table.now in
    let is : c.rows_in.result ≡ c.args.rows =
    c.rows_in.ensures
    ∙ lines_again table.headers c.args.rows c.len-width.result (cells_of c.cells.result) (rows_wide c.args.table.now.headers c.args.rows c.requires) (c.len-width.ensures.count ∙ ap length c.headers.ensures.value) c.headers.ensures.valid
    c.cells.ensures in
    let stored = c.in_ok-insert.ensures.rows ∙ ap (λ l. rows_in table.slots ++ l) is in (
      no_test _ TableFull _ (le-ltb row_limit (length (rows_in table.slots) + length c.args.rows) (omega arith)),
      (ap (λ n. Count n) c.len-count.ensures, λ j. record { headers = c.insert.ensures.headers j; rows = stored j }),
    )

pub returns-clause-stored : goal.returns-clause-stored
returns-clause-stored c = record { rows = c.rows_in.result; inserted = c.in_ok-insert.ensures.inserted }
