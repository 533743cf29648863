use Rattle.std.proofs.Common.{Some, option_map, sym}
use Rattle.bw_code.specs.Meters.{raised}
use Rattle.bw_sql.specs.Tree.{condition_of, select_of}
use Rattle.bw_model.specs.Refusals.{select_tests}
use Rattle.bw_model.specs.declared.reply.Reply.TheVariants.{Units}
use Rattle.bw_engine.specs.Counting.{units_over}
use Rattle.bw_engine.proofs.Steps.{no_table, reads_table}
use Rattle.bw_engine.proofs.stats.stats.Goals as goal

pub returns-in-Some : goal.returns-in-Some
returns-in-Some c =
    let condition = option_map condition_of c.args.query.condition in
    let there = sym c.in-Some.ensures.value in
    rw there
    (reads_table c.args.tables.now.entries c.args.query.table c.in-Some.table.now there
    (λ table. select_tests (select_of c.args.query) table.headers) (λ table. Units (raised 0 (units_over (Some c.in-Some.table.now) condition))) c.counted.result c.counted.ensures)

pub returns : goal.returns
returns c = no_table c.args.tables.now.entries c.args.query.table (λ table. select_tests (select_of c.args.query) table.headers) (sym c.in-None.ensures.value)
