use Rattle.std.proofs.Common.{◌≡◌, ◌∙◌, ap, length, map}
use Rattle.bw_sql.specs.Rows.{joined}
use Rattle.bw_model.specs.Answers.{lines_of}
use Rattle.bw_model.specs.Store.{value_from}
use Rattle.bw_model.proofs.Lines.{length-joined, lines_of-joined, whole_lines}
use Rattle.bw_plan.proofs.Places.{row_by_sources}
use Rattle.bw_plan.proofs.insert.placed_cells.Goals as goal

pub spread-requires : goal.spread-requires
spread-requires c =
    let names = c.args.names.now in
    let rows = c.args.rows in
    rw c.values.ensures
    (whole_lines (length names) (length rows) (joined rows) c.requires.some
    (length-joined (length names) rows c.requires.widths))

pub returns : goal.returns
returns c =
    let names = c.args.names.now in
    let rows = c.args.rows in
    let headers = c.args.headers.now in
    let lines : lines_of (length names) c.values.result.now ≡ rows =
    ap (lines_of (length names)) c.values.ensures ∙ lines_of-joined (length names) rows c.requires.some c.requires.widths in
    c.in_ok-cells.ensures
    ∙ ap (λ l. joined (map (λ row. map (value_from row) c.as_slice.result.now) l)) lines
    ∙ (λ j. joined (map (λ row. row_by_sources headers names c.as_slice.result.now row (c.as_slice.ensures.value ∙ c.in_ok-sources.ensures) j) rows))
