use Rattle.std.proofs.Common.{ap, length}
use Rattle.test_tables.proofs.Flat.{integers_typed}
use Rattle.test_tables.proofs.harness.load.Goals as goal

pub insert-requires : goal.insert-requires
insert-requires g c =
    let headers = c.args.table.now.headers in
    let width = c.headers-width in
    record { typed = rw c.of_integers-rows.ensures (integers_typed headers (length width.result.now) c.args.cells.now (ap length width.ensures.is) c.see_integers.ensures) }
