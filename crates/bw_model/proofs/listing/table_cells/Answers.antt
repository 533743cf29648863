use Rattle.std.proofs.Common.{sym}
use Rattle.bw_model.specs.Listing.{table_line}
use Rattle.bw_model.proofs.Lines.{joined_next}
use Rattle.bw_model.proofs.listing.table_cells.Goals as goal

pub loop-name-preserved : goal.loop-name-preserved
loop-name-preserved c =
    rw (c.in_ok-append.ensures.items, c.in_ok-line.ensures, c.loop-name.invariant)
    (sym (joined_next table_line c.args.tables.now c.loop-name.name-index c.loop-name-item.result c.loop-name-test.true c.loop-name-item.is))
