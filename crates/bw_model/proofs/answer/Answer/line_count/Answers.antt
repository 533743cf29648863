use Rattle.std.proofs.Common.{◌∙◌, ◌/◌, ◌≡◌, ap, length}
use Rattle.std.proofs.Math.Nat.{mul-div_cancel}
use Rattle.bw_model.specs.Answers.{Shown}
use Rattle.bw_model.proofs.answer.Answer.line_count.Goals as goal

pub returns : goal.returns
returns c =
    let shows = c.args.self.now in
    let width : length c.as_slice.result.now ≡ length shows.headings = ap length (c.as_slice.ensures.value ∙ ap (λ (s : Shown). s.headings) c.self.view_is) in
    ap (λ n. c.cell_count.result / n) width ∙ ap (λ n. n / length shows.headings) c.cell_count.ensures.count ∙ mul-div_cancel (length shows.lines) c.cell_count.ensures.some
