use Rattle.std.proofs.Common.{[], append_assoc, arith, length, map, take, ◌<◌, ◌≡◌}
use Rattle.std.proofs.lemmas.List.{length-map}
use Rattle.std.proofs.lemmas.List.Elements.{All-get_or}
use Rattle.std.specs.List.{flat_map}
use Rattle.std.specs.Prelude.{All}
use Rattle.bw_file.specs.Format.{column_bytes}
use Rattle.bw_file.specs.Planes.{IsWideCell}
use Rattle.bw_file.specs.declared.version.Version.TheVariants.{Second}
use Rattle.bw_file.proofs.Joined.{piece_at, piece_more}
use Rattle.bw_file.proofs.columns.put_columns.Goals as goal

pub put_column-requires-clause-long : goal.put_column-requires-clause-long
put_column-requires-clause-long g c =
    let cells = g.C.Cells.cells in
    let xs = c.args.columns.now in
    let there : c.columns.i < length (map cells xs) = omega (arith, length-map xs cells, c.columns-test.true) in
    rw (piece_at cells xs c.columns.i c.index-columns-i.result c.columns-test.true c.index-columns-i.is []) at (All-get_or (λ x. length x ≡ c.args.rows) (map cells xs) c.columns.i [] there c.requires.long)

pub put_column-requires-clause-wide : goal.put_column-requires-clause-wide
put_column-requires-clause-wide g c =
    let cells = g.C.Cells.cells in
    let xs = c.args.columns.now in
    let there : c.columns.i < length (map cells xs) = omega (arith, length-map xs cells, c.columns-test.true) in
    rw (piece_at cells xs c.columns.i c.index-columns-i.result c.columns-test.true c.index-columns-i.is []) at (All-get_or (All IsWideCell) (map cells xs) c.columns.i [] there c.requires.wide)

pub columns-preserved : goal.columns-preserved
columns-preserved g c =
    let cells = g.C.Cells.cells in
    let more = piece_more cells c.args.columns.now c.columns.i c.index-columns-i.result c.columns-test.true c.index-columns-i.is (column_bytes Second) in
    let assoc = append_assoc c.args.bytes.now.items (flat_map (column_bytes Second) (take c.columns.i (map cells c.args.columns.now))) (column_bytes Second (cells c.index-columns-i.result)) in
    cc (c.in_ok-put_column.ensures, c.columns.invariant)
