use Rattle.std.proofs.Common.{ap, get_or, sym, ◌&&◌, ◌∙◌}
use Rattle.bw_mask.specs.Masks.{row_at}
use Rattle.bw_code.specs.Columns.{code_at}
use Rattle.bw_code.specs.Intervals.{is_in_wide as is_in}
use Rattle.bw_code.specs.Tests.{meets}
use Rattle.bw_code.proofs.BlockLemmas.{all_needed, none_needed}
use Rattle.bw_code.proofs.FitLemmas.{code_fits_64}
use Rattle.bw_code.proofs.wide_codes.WideCodesCodeColumn.scan.Goals.{in-All, in-Cmp, in-None}
use Rattle.bw_code.proofs.wide_codes.WideCodesCodeColumn.scan.Goals as goal

pub returns-clause-rows : goal.returns-clause-rows
returns-clause-rows c r =
    let need = row_at c.args.need.now r in
    let code = code_at c.args.self.now r in
    elim c.match-test.branch [
      | in-None w ↦
          ap (λ m. row_at m r) w.out-is ∙ w.andnot_in.ensures.rows r ∙ rw (w.and_in.ensures.rows r) (none_needed (row_at c.args.out.now r) need)
          ∙ sym (ap (λ test. need && meets test code) w.in-None.is)
      | in-All w ↦
          ap (λ m. row_at m r) w.out-is ∙ w.and_in-in-All.ensures.rows r ∙ rw (w.or_in.ensures.rows r) (all_needed (row_at c.args.out.now r) need)
          ∙ sym (ap (λ test. need && meets test code) w.in-All.is)
      | in-Cmp w ↦
          let codes = c.self.inside.codes.items in
          ap (λ m. row_at m r) w.out-is ∙ w.rows_in.ensures.rows r ∙ ap (λ xs. need && is_in w.of.result (get_or xs r 0)) w.deref.ensures.value
          ∙ ap (λ b. need && b) (w.of.ensures (get_or codes r 0) (code_fits_64 c.self.inside.width c.self.invariant.narrow codes c.self.invariant.fit r))
          ∙ ap (λ view. need && meets c.args.test (code_at view r)) c.self.view_is
    ]
