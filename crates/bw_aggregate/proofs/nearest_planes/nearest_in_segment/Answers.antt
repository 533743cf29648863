use Rattle.std.proofs.Common.{arith, sym, ℕ, ◌*◌, ◌+◌, ◌-◌, ◌^◌, ◌∙◌}
use Rattle.bw_mask.specs.Masks.{row_in}
use Rattle.bw_code.specs.Columns.{code_at}
use Rattle.bw_aggregate.proofs.LeftRows.{none_of}
use Rattle.bw_aggregate.proofs.Marks.{none_marked}
use Rattle.bw_aggregate.proofs.Nearest.{nearest_of_all}
use Rattle.bw_aggregate.proofs.nearest_planes.nearest_in_segment.Goals as goal

pub returns-then-has_row : goal.returns-then-has_row
returns-then-has_row c =
    nearest_of_all 256 (row_in c.args.rows.now) (row_in c.rows_that_may_be_nearer-left.result) (λ (j : ℕ). code_at c.args.codes.now (256 * c.args.q + j)) c.args.end (2 ^ c.args.codes.now.width - 1) c.args.best c.nearest_of.result
    c.rows_that_may_be_nearer-left.ensures.left c.rows_that_may_be_nearer-left.ensures.out c.nearest_of.ensures

pub returns-else-has_row : goal.returns-else-has_row
returns-else-has_row c =
    let none = none_marked 256 (row_in c.rows_that_may_be_nearer-left.result) (none_of _ (sym c.has_row.ensures ∙ c.if-has_row.false)) in
    record {
      upto = omega arith;
      none = λ j h t. c.rows_that_may_be_nearer-left.ensures.out j h t (none j h);
      there = λ h. absurd (omega (arith, h));
    }
