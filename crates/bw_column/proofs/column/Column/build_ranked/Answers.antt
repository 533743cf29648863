use Rattle.std.proofs.Common.{ap, ◌≡◌, ◌∙◌}
use Rattle.bw_code.specs.declared.encoding.Encoding.TheVariants as by
use Rattle.bw_column.specs.Values.{known}
use Rattle.bw_column.proofs.Grown.{distinct_coded}
use Rattle.bw_column.proofs.Known.{all_coded}
use Rattle.bw_column.proofs.Narrow.{known_held, narrow}
use Rattle.bw_column.proofs.column.Column.build_ranked.Goals as goal

pub with_room-requires-clause-narrow : goal.with_room-requires-clause-narrow
with_room-requires-clause-narrow g c =
    let values = g.C.Cells.cells c.args.values.now in
    let e : c.in_ok-encoding.encoding ≡ by.Dictionary c.in_ok-ranked.ranked.entries.items = c.in_ok-encoding.ensures ∙ ap by.Dictionary c.deref.ensures.value in
    rw e (narrow c.args.layout (known values) (by.Dictionary c.in_ok-ranked.ranked.entries.items) (known_held c.args.layout values c.requires.held) c.in_ok-ranked.ensures.entries)

pub extend_ranked-requires-clause-coded : goal.extend_ranked-requires-clause-coded
extend_ranked-requires-clause-coded g c =
    let values = g.C.Cells.cells c.args.values.now in
    let entries = c.in_ok-ranked.ranked.entries.items in
    let e : c.in_ok-encoding.encoding ≡ by.Dictionary entries = c.in_ok-encoding.ensures ∙ ap by.Dictionary c.deref.ensures.value in
    rw (c.in_ok-column.ensures.encoding, e) (all_coded (by.Dictionary entries) values (distinct_coded (known values) entries c.in_ok-ranked.ensures.entries))
