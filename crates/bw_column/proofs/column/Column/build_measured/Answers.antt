use Rattle.bw_code.specs.declared.encoding.Encoding.TheVariants as by
use Rattle.bw_column.specs.Values.{known}
use Rattle.bw_column.proofs.Known.{all_coded}
use Rattle.bw_column.proofs.Narrow.{known_held, narrow}
use Rattle.bw_column.proofs.column.Column.build_measured.Goals as goal

pub with_room-requires-clause-narrow : goal.with_room-requires-clause-narrow
with_room-requires-clause-narrow g c =
    let values = g.C.Cells.cells c.args.values.now in
    narrow c.args.layout (known values) (by.Offset c.spanning-offset.result) (known_held c.args.layout values c.requires.held) (c.spanning-offset.ensures.fits (known values) c.ends.ensures)

pub extend_from-requires-clause-coded : goal.extend_from-requires-clause-coded
extend_from-requires-clause-coded g c =
    let values = g.C.Cells.cells c.args.values.now in
    rw c.in_ok-column.ensures.encoding (all_coded (by.Offset c.spanning-offset.result) values (c.spanning-offset.ensures.coded (known values) c.ends.ensures))
