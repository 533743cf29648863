use Rattle.std.proofs.Common.{ap, length, sym, ◌*◌, ◌∙◌}
use Rattle.std.proofs.lemmas.List.{length-map}
use Rattle.bw_model.specs.Answers.{Shown}
use Rattle.bw_model.specs.declared.answer.Kept.{Kept}
use Rattle.bw_model.specs.Cells.{cells_kept}
use Rattle.bw_model.specs.Select.{shown}
use Rattle.bw_model.proofs.Lines.{cells_count}
use Rattle.bw_model.proofs.answer.Answer.cell_count.Goals as goal

pub returns-in-Values-clause-count : goal.returns-in-Values-clause-count
returns-in-Values-clause-count c =
    let fields = c.self.inside in
    ap length c.as_slice.ensures.value
    ∙ sym (length-map c.in-Values.values.items shown)
    ∙ ap (λ (kept : Kept). length (cells_kept kept)) (sym c.in-Values.is)
    ∙ cells_count (length fields.headings.items) (cells_kept fields.cells) c.self.invariant
    ∙ ap (λ (shows : Shown). length shows.lines * length shows.headings) c.self.view_is

pub returns-in-Mixed-clause-count : goal.returns-in-Mixed-clause-count
returns-in-Mixed-clause-count c =
    let fields = c.self.inside in
    ap length c.as_slice-in-Mixed.ensures.value
    ∙ ap (λ (kept : Kept). length (cells_kept kept)) (sym c.in-Mixed.is)
    ∙ cells_count (length fields.headings.items) (cells_kept fields.cells) c.self.invariant
    ∙ ap (λ (shows : Shown). length shows.lines * length shows.headings) c.self.view_is
