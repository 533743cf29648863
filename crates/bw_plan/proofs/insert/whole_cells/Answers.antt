use Rattle.std.proofs.Common.{◌≡◌, ◌∙◌, ◌++◌, ap, inr, map, sym}
use Rattle.std.proofs.lemmas.List.{length-map}
use Rattle.bw_sql.specs.Rows.{joined}
use Rattle.bw_model.specs.Insert.{row_for}
use Rattle.bw_model.specs.Store.{names}
use Rattle.bw_plan.specs.Checks.{listed_tests, value_tests}
use Rattle.bw_plan.proofs.Places.{rows_for-all, whole_first}
use Rattle.bw_plan.proofs.Tests.{all_of_width, passed_on}
use Rattle.bw_plan.proofs.insert.whole_cells.Goals as goal

pub returns-in_err-check_rows : goal.returns-in_err-check_rows
returns-in_err-check_rows c =
    let headers = c.args.headers.now in
    let rows = c.args.rows in
    passed_on (listed_tests headers (names headers) ++ value_tests headers (names headers) c.args.room rows) c.from_residual.result (λ cells. cells.items ≡ joined (map (row_for headers (names headers)) rows)) _
    (inr (whole_first headers c.args.room rows c.len-valid.ensures.valid ∙ c.in_err-check_rows.ensures)) c.from_residual.ensures.1

pub returns : goal.returns
returns c =
    let headers = c.args.headers.now in
    let rows = c.args.rows in
    let none = c.in_ok-check_rows.ensures.0 in (
      whole_first headers c.args.room rows c.len-valid.ensures.valid ∙ none,
      c.into_values.ensures ∙ ap joined (sym (rows_for-all headers rows c.len-valid.ensures.valid (rw (length-map headers (λ h. h.name)) at (all_of_width headers (names headers) c.args.room rows none)))),
    )
