use Rattle.std.proofs.Common.{inr, refl, sym}
use Rattle.bw_sql.specs.Tree.{save}
use Rattle.bw_model.specs.Refusals.{save_tests}
use Rattle.bw_engine.specs.Stores.{store_of, table_in}
use Rattle.bw_engine.proofs.Saved.{save_accepted, save_too_large, save_wants, saved_table}
use Rattle.bw_engine.proofs.Steps.{no_table}
use Rattle.bw_engine.proofs.save.save.Goals as goal

pub returns-in_default : goal.returns-in_default
returns-in_default c = no_table c.args.tables.now.entries c.args.statement.table save_tests (sym c.in_default.ensures.value)

pub returns-then-is_too_long : goal.returns-then-is_too_long
returns-then-is_too_long c =
    inr (save_too_large c.args.tables.now.entries c.args.statement.table c.args.statement.file c.in-Some.table.now (sym c.in-Some.ensures.value) (c.is_too_long.ensures.long c.if-is_too_long.true))

pub returns-in_err-bytes : goal.returns-in_err-bytes
returns-in_err-bytes c =
    save_wants (store_of c.args.tables.now.entries) (save c.args.statement.table c.args.statement.file) c.from_residual.result (store_of c.args.tables.now.entries)
    (save_accepted c.args.tables.now.entries c.args.statement.table c.args.statement.file c.in-Some.table.now (sym c.in-Some.ensures.value) (c.is_too_long.ensures.short c.if-is_too_long.false))
    c.from_residual.ensures.1

pub returns : goal.returns
returns c =
    let tables = c.args.tables.now.entries in
    let table = c.in-Some.table.now in
    let there = sym c.in-Some.ensures.value in record {
      name = c.args.statement.table;
      table = table_in table;
      asks = refl;
      there = saved_table tables c.args.statement.table c.args.statement.file table there;
      accepted = save_accepted tables c.args.statement.table c.args.statement.file table there (c.is_too_long.ensures.short c.if-is_too_long.false);
      holds = c.in_ok-bytes.ensures;
      rows = c.row_count.ensures.value;
      stays = refl;
    }
