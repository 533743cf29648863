-- What a SELECT shows, from the cells of its lines.
use Rattle.std.proofs.Common.{◌≡◌, ◌<◌, ℕ, List, Option, length, map, ap, subst, sym, ◌∙◌}
use Rattle.std.proofs.lemmas.List.{length-map}
use Rattle.bw_sql.specs.Rows.{joined}
use Rattle.bw_sql.specs.Tree.{SelectTree}
use Rattle.bw_sql.specs.declared.tree.SelectItem.{SelectItem}
use Rattle.bw_model.specs.Answers.{AreWholeLines, Shown, lines_of}
use Rattle.bw_model.specs.Condition.{found_rows}
use Rattle.bw_model.specs.Select.{answer, heading_of, lines_for, shown_items}
use Rattle.bw_model.specs.Store.{Row, Table}
use Rattle.bw_model.specs.declared.answer.Cell.{Cell}
use Rattle.bw_model.specs.declared.answer.Heading.{Heading}
use Rattle.bw_model.proofs.Items.{lines_wide}
use Rattle.bw_model.proofs.Lines.{length-joined, lines_of-joined, whole_lines}

module _ (table : Table) (list : List SelectItem) (grouping : Option (List ℕ)) (headings : List Heading) (cells : List Cell) (rows : List Row)
    (some : 0 < length list)
    (headed : headings ≡ map heading_of list)
    (shows : cells ≡ joined (lines_for table.headers list grouping rows)) where
  width : length headings ≡ length list
  width = ap length headed ∙ length-map list heading_of

  pub whole_answer : AreWholeLines (length headings) cells
  whole_answer =
      let lines = lines_for table.headers list grouping rows in
      subst (λ w. AreWholeLines w cells) (sym width)
      (whole_lines (length list) (length lines) cells some (ap length shows ∙ length-joined (length list) lines (lines_wide table.headers list rows grouping)))

  lines_answer : lines_of (length headings) cells ≡ lines_for table.headers list grouping rows
  lines_answer =
      ap (λ w. lines_of w cells) width
      ∙ ap (lines_of (length list)) shows
      ∙ lines_of-joined (length list) (lines_for table.headers list grouping rows) some (lines_wide table.headers list rows grouping)

  pub answer_is : (query : SelectTree) (shows : Shown)
      → list ≡ shown_items table.headers query.items → grouping ≡ query.grouping → rows ≡ found_rows table query.condition → shows.headings ≡ headings → shows.lines ≡ lines_of (length headings) cells → shows ≡ answer table query
  answer_is query shows listed grouped found heads lines =
      (λ j. record { headings = (heads ∙ headed) j; lines = (lines ∙ lines_answer) j })
      ∙ (λ j. record { headings = map heading_of (listed j); lines = lines_for table.headers (listed j) (grouped j) (found j) })
