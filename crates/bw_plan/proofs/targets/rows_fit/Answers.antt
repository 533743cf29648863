use Rattle.std.proofs.Common.{ap, length, sym, ◌≡◌, ◌∙◌}
use Rattle.std.specs.List.{list_all}
use Rattle.std.proofs.lemmas.Bool.{eqb-true}
use Rattle.bw_code.specs.Types.{are_of_types, is_null_or_of_type}
use Rattle.bw_code.specs.declared.kind.ColumnType.TheVariants.{Integer}
use Rattle.bw_sql.specs.Rows.{joined}
use Rattle.bw_model.specs.Answers.{lines_of}
use Rattle.bw_model.specs.Refusals.{types_named}
use Rattle.bw_model.proofs.Lines.{length-joined, lines_of-joined, whole_lines}
use Rattle.bw_plan.specs.Targeting.{names_of}
use Rattle.bw_plan.proofs.Lines.{nonempty}
use Rattle.bw_plan.proofs.Targeting.{look_ends, look_fails, look_goes_on, look_starts, rows_of_integers}
use Rattle.bw_plan.proofs.targets.rows_fit.Goals as goal

pub returns-then-are_integer : goal.returns-then-are_integer
returns-then-are_integer c =
    let headers = c.args.headers.now in
    let list = names_of headers c.args.targets in
    c.are_integers.ensures ∙ ap (list_all (is_null_or_of_type Integer)) c.values.ensures ∙ sym (rows_of_integers headers (c.are_integer.ensures c.if-are_integer.true) list c.args.rows.now c.requires.widths)

pub loop-rest-init : goal.loop-rest-init
loop-rest-init c =
    let headers = c.args.headers.now in
    let list = names_of headers c.args.targets in
    let rows = c.args.rows.now in
    let p = are_of_types (types_named headers list) in
    let whole = whole_lines (length list) (length rows) (joined rows) c.requires.some (length-joined (length list) rows c.requires.widths) in
    rw (c.len-width.ensures, c.values-rest.ensures) (look_starts p (length list) (joined rows) whole)

pub loop-rest-preserved : goal.loop-rest-preserved
loop-rest-preserved c =
    let headers = c.args.headers.now in
    let list = names_of headers c.args.targets in
    let p = are_of_types (types_named headers list) in
    rw c.split_at.ensures.back
    (look_goes_on p c.len-width.result (joined c.args.rows.now) c.loop-rest.rest.now c.loop-rest.invariant (nonempty (length c.loop-rest.rest.now) c.is_empty.result c.is_empty.ensures c.loop-rest-test.true)
    (ap p (sym c.split_at.ensures.front) ∙ sym c.row_fits.ensures ∙ c.if-not-row_fits.false))

pub returns-then-not-row_fits : goal.returns-then-not-row_fits
returns-then-not-row_fits c =
    let headers = c.args.headers.now in
    let list = names_of headers c.args.targets in
    let rows = c.args.rows.now in
    let p = are_of_types (types_named headers list) in
    let lines : lines_of c.len-width.result (joined rows) ≡ rows = ap (λ w. lines_of w (joined rows)) c.len-width.ensures ∙ lines_of-joined (length list) rows c.requires.some c.requires.widths in
    sym (ap (list_all p) (sym lines)
    ∙ look_fails p c.len-width.result (joined rows) c.loop-rest.rest.now c.loop-rest.invariant (nonempty (length c.loop-rest.rest.now) c.is_empty.result c.is_empty.ensures c.loop-rest-test.true)
    (ap p (sym c.split_at.ensures.front) ∙ sym c.row_fits.ensures ∙ c.if-not-row_fits.true))

pub returns : goal.returns
returns c =
    let headers = c.args.headers.now in
    let list = names_of headers c.args.targets in
    let rows = c.args.rows.now in
    let p = are_of_types (types_named headers list) in
    let lines : lines_of c.len-width.result (joined rows) ≡ rows = ap (λ w. lines_of w (joined rows)) c.len-width.ensures ∙ lines_of-joined (length list) rows c.requires.some c.requires.widths in
    sym (ap (list_all p) (sym lines) ∙ look_ends p c.len-width.result (joined rows) c.loop-rest.rest.now c.loop-rest.invariant (eqb-true (length c.loop-rest.rest.now) 0 (sym c.is_empty.ensures ∙ c.loop-rest-test.false)))
