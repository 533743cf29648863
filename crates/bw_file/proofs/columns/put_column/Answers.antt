use Rattle.std.proofs.Common.{ap, take, ◌++◌, ◌≡◌, ◌∙◌}
use Rattle.bw_cells.specs.Known.{known}
use Rattle.bw_file.specs.Planes.{column_bytes}
use Rattle.bw_file.proofs.Frames.{frame_fits}
use Rattle.bw_file.proofs.columns.put_column.Goals as goal

pub returns : goal.returns
returns g c =
    let cells = g.C.Cells.cells c.args.column.now in
    let fits = frame_fits (known cells) c.spanning.result (c.spanning.ensures.fits (known cells) c.ends.ensures) in
    let back : c.truncate.new.self.items ≡ c.args.bytes.now.items =
    c.truncate.ensures.items ∙ ap (λ n. take n c.put_codes.new.bytes.items) c.len-start.ensures ∙ c.in_ok-put_codes.ensures.kept in
    c.in_ok-put_codes-2.ensures.framed fits.0 fits.1 ∙ ap (λ xs. xs ++ column_bytes cells) back
