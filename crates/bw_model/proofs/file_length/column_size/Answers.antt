use Rattle.std.proofs.Common.{◌≡◌, ◌∙◌, ◌+◌, ◌*◌, ◌/◌, arith, length}
use Rattle.std.proofs.lemmas.List.{length-map}
use Rattle.bw_cells.specs.Known.{known}
use Rattle.bw_file.proofs.Frames.{frame_fits}
use Rattle.bw_model.specs.Filing.{column_of}
use Rattle.bw_model.specs.Store.{Row, value_at}
use Rattle.bw_model.proofs.file_length.column_size.Goals as goal

pub returns-clause-size : goal.returns-clause-size
returns-clause-size c =
    let cells = column_of c.args.rows.now c.args.k in
    let is : c.as_slice.result.now ≡ cells = c.as_slice.ensures.value ∙ c.in_ok-cells.ensures in
    let fit = rw is at (c.spanning-width.ensures.fits (known c.as_slice.result.now) c.ends.ensures) in
    let width = (frame_fits (known cells) c.spanning-width.result fit).1 in
    let long : length cells ≡ length c.args.rows.now = length-map c.args.rows.now (λ (row : Row). value_at row c.args.k) in
    let count : c.div_ceil.result ≡ (length cells + 7) / 8 = omega (arith, c.div_ceil.ensures, long) in
    λ j. 9 + (width j + 1) * count j
