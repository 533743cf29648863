use Rattle.std.proofs.Common.{◌≡◌, None, Some, rules}
use Rattle.bw_sql.specs.Tree.{select_of}
use Rattle.bw_model.specs.Refusals.{first_that_holds, select_tests}
use Rattle.bw_model.specs.Store.{table_of}
use Rattle.bw_model.proofs.Stores.{selected}
use Rattle.bw_model.proofs.steps.select.Goals as goal

pub returns : goal.returns
returns c =
    let store = c.args.tables.now in
    let query = select_of c.args.query.now in
    let table = c.in-Some.table.now in
    let there : table_of store query.table ≡ Some table = search rules in
    let none : first_that_holds (select_tests query table.headers) ≡ None = search rules in
    selected store query table c.in_ok-shows.shows there none c.in_ok-shows.ensures
