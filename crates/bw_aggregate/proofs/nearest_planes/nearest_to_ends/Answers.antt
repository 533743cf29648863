use Rattle.std.proofs.Common.{sym, ℕ, ◌*◌, ◌+◌, ◌-◌, ◌^◌, ◌∙◌}
use Rattle.bw_mask.specs.Masks.{row_in}
use Rattle.bw_code.specs.Columns.{code_at}
use Rattle.bw_aggregate.proofs.LeftRows.{none_of}
use Rattle.bw_aggregate.proofs.Marks.{none_marked}
use Rattle.bw_aggregate.proofs.Nearest.{ends_none, ends_zero}
use Rattle.bw_aggregate.proofs.nearest_planes.nearest_to_ends.Goals as goal

pub returns-then-are_none : goal.returns-then-are_none
returns-then-are_none c =
    ends_zero 256 (row_in c.args.rows.now) (λ (j : ℕ). code_at c.args.codes.now (256 * c.args.q + j)) (2 ^ c.args.codes.now.width - 1) c.args.best
    (c.are_none.ensures.least c.if-are_none.true) (c.are_none.ensures.greatest c.if-are_none.true)

pub returns-then-not-has_row : goal.returns-then-not-has_row
returns-then-not-has_row c =
    ends_none 256 (row_in c.args.rows.now) (λ (j : ℕ). code_at c.args.codes.now (256 * c.args.q + j)) (2 ^ c.args.codes.now.width - 1) c.args.best
    (none_marked 256 (row_in c.args.rows.now) (none_of _ (sym c.has_row.ensures ∙ c.if-not-has_row.true)))
