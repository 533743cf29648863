use Rattle.std.proofs.Common.{ap, length}
use Rattle.test_tables.proofs.Flat.{checked_typed}
use Rattle.test_tables.proofs.harness.insert_wide.Goals as goal

pub insert-requires : goal.insert-requires
insert-requires g c =
    let headers = c.args.table.now.headers in
    let width = c.headers-width in
    record { typed = rw c.new-rows.ensures (checked_typed headers (length width.result.now) c.args.cells.now (ap length width.ensures.is) c.check_types.ensures) }
