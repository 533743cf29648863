use Rattle.std.proofs.Common.{ap, length}
use Rattle.test_tables.proofs.Flat.{integers_typed}
use Rattle.test_tables.proofs.harness.insert.Goals as goal

pub insert-requires : goal.insert-requires
insert-requires g c =
    let headers = c.args.table.now.headers in
    let width = c.headers-width in
    record { typed = rw (c.new-rows.ensures, c.deref.ensures.value) (integers_typed headers (length width.result.now) c.wide_cells-cells.result.items (ap length width.ensures.is) c.wide_cells-cells.ensures) }
