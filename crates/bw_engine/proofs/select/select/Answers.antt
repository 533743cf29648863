use Rattle.std.proofs.Common.{sym}
use Rattle.bw_sql.specs.Tree.{select_of}
use Rattle.bw_model.specs.Refusals.{select_tests}
use Rattle.bw_model.specs.Select.{answer}
use Rattle.bw_model.specs.declared.reply.Reply.TheVariants.{Rows}
use Rattle.bw_engine.proofs.Steps.{no_table, reads_table}
use Rattle.bw_engine.proofs.select.select.Goals as goal

pub returns-in-Some : goal.returns-in-Some
returns-in-Some c =
    reads_table c.args.tables.now.entries c.args.query.table c.in-Some.table.now (sym c.in-Some.ensures.value)
    (λ table. select_tests (select_of c.args.query) table.headers) (λ table. Rows (answer table (select_of c.args.query))) c.shown_rows.result c.shown_rows.ensures

pub returns-in-None : goal.returns-in-None
returns-in-None c =
    no_table c.args.tables.now.entries c.args.query.table (λ table. select_tests (select_of c.args.query) table.headers) (sym c.in-None.ensures.value)
