use Rattle.std.proofs.Common.{Some, ap, length, map, subst, sym, ◌≡◌, ◌∙◌, [], ◌∷◌}
use Rattle.std.specs.List.{All}
use Rattle.std.proofs.lemmas.List.{length-map}
use Rattle.bw_mask.specs.Masks.{row_at}
use Rattle.bw_model.specs.Select.{shown}
use Rattle.bw_model.specs.Groups.{groups_by}
use Rattle.bw_sql.specs.Rows.{joined}
use Rattle.bw_engine.specs.AnswerCells.{collected}
use Rattle.bw_engine.specs.Folds.{number_by, told_in}
use Rattle.bw_engine.specs.Found.{rows_where}
use Rattle.bw_engine.specs.Stores.{rows_of_slots}
use Rattle.bw_engine.proofs.GroupShows.{group_lines_wide}
use Rattle.bw_engine.proofs.Shows.{lines_answer, one_line_flat, one_line_wide, values_lines, values_whole, whole_answer}
use Rattle.bw_engine.proofs.select.shown_answer.Goals as goal

pub of_values-requires : goal.of_values-requires
of_values-requires c =
    values_whole (length c.args.headings.items) c.in-Columns.places.items (rows_where (row_at c.args.found.now) (rows_of_slots c.args.table.now.slots)) c.in_ok-values-in-Columns.values.items c.requires.some
    (rw c.in-Columns.is at c.requires.wide) (rw (c.as_slice.ensures.value, c.stored.ensures) at c.in_ok-values-in-Columns.ensures)

pub returns-in_ok-values-in-Columns-clause-lines : goal.returns-in_ok-values-in-Columns-clause-lines
returns-in_ok-values-in-Columns-clause-lines c =
    let lines =
    values_lines (length c.args.headings.items) c.in-Columns.places.items (rows_where (row_at c.args.found.now) (rows_of_slots c.args.table.now.slots)) c.in_ok-values-in-Columns.values.items c.requires.some
    (rw c.in-Columns.is at c.requires.wide) (rw (c.as_slice.ensures.value, c.stored.ensures) at c.in_ok-values-in-Columns.ensures) in
    rw c.in-Columns.is (c.of_values.ensures.lines ∙ lines)

pub returns-in_ok-cells-in-Functions-clause-lines : goal.returns-in_ok-cells-in-Functions-clause-lines
returns-in_ok-cells-in-Functions-clause-lines c =
    let cells = c.in_ok-cells-in-Functions.cells.items in
    let functions = c.in-Functions.functions.items in
    let width = length c.args.headings.items in
    let said = number_by (rows_where (row_at c.args.found.now) (rows_of_slots c.args.table.now.slots)) in
    let wide : width ≡ length functions = rw c.in-Functions.is at c.requires.wide in
    let told : cells ≡ map (λ f. shown (said f)) functions = rw (c.as_slice-in-Functions.ensures.value, c.stored-in-Functions.ensures) at c.in_ok-cells-in-Functions.ensures in
    let count : length cells ≡ width = ap length told ∙ length-map functions (λ f. shown (said f)) ∙ sym wide in
    rw c.in-Functions.is (c.new.ensures.lines ∙ lines_answer (cells ∷ []) cells width c.requires.some (one_line_wide cells width count) (one_line_flat cells) ∙ ap (λ line. line ∷ []) told)

pub group_cells-requires-clause-by : goal.group_cells-requires-clause-by
group_cells-requires-clause-by c = let places = rw c.in-Groups.is at c.requires.places in rw c.stored-in-Groups.ensures places.0

pub group_cells-requires-clause-items : goal.group_cells-requires-clause-items
group_cells-requires-clause-items c = let places = rw c.in-Groups.is at c.requires.places in rw c.stored-in-Groups.ensures places.1

pub answer-requires : goal.answer-requires
answer-requires c =
    let items = c.in-Groups.plan.items.items in
    let groups = groups_by (Some c.in-Groups.plan.by) (rows_where (row_at c.args.found.now) (rows_of_slots c.args.table.now.slots)) in
    let width = length c.args.headings.items in
    let wide : width ≡ length items = rw c.in-Groups.is at c.requires.wide in
    let flat : collected c.in_ok-cells-in-Groups.cells ≡ joined (map (λ group. map (told_in group) items) groups) = rw c.stored-in-Groups.ensures at c.in_ok-cells-in-Groups.ensures in
    whole_answer (map (λ group. map (told_in group) items) groups) (collected c.in_ok-cells-in-Groups.cells) width c.requires.some (subst (λ w. All (λ line. length line ≡ w) (map (λ group. map (told_in group) items) groups)) (sym wide) (group_lines_wide items groups)) flat

pub returns-in_ok-cells-in-Groups-clause-lines : goal.returns-in_ok-cells-in-Groups-clause-lines
returns-in_ok-cells-in-Groups-clause-lines c =
    let items = c.in-Groups.plan.items.items in
    let groups = groups_by (Some c.in-Groups.plan.by) (rows_where (row_at c.args.found.now) (rows_of_slots c.args.table.now.slots)) in
    let width = length c.args.headings.items in
    let wide : width ≡ length items = rw c.in-Groups.is at c.requires.wide in
    let flat : collected c.in_ok-cells-in-Groups.cells ≡ joined (map (λ group. map (told_in group) items) groups) = rw c.stored-in-Groups.ensures at c.in_ok-cells-in-Groups.ensures in
    rw c.in-Groups.is
    (c.answer.ensures.lines ∙ lines_answer (map (λ group. map (told_in group) items) groups) (collected c.in_ok-cells-in-Groups.cells) width c.requires.some (subst (λ w. All (λ line. length line ≡ w) (map (λ group. map (told_in group) items) groups)) (sym wide) (group_lines_wide items groups)) flat)
