use Rattle.std.proofs.Common.{sym, ℕ, ◌∙◌}
use Rattle.bw_vertical.specs.Storage.{code_of, is_set, lists}
use Rattle.bw_vertical.proofs.Descending.{no_row_left, row_left}
use Rattle.bw_vertical.proofs.Numbers.{number_fits}
use Rattle.bw_vertical.proofs.SegmentEnds.{ends_kept, ends_more}
use Rattle.bw_vertical.proofs.descent.with_segment.Goals as goal

pub returns-then-is_empty : goal.returns-then-is_empty
returns-then-is_empty c has here before =
    ends_kept has (code_of c.args.k (lists c.args.groups.now)) c.args.q c.args.rows.now c.args.ends here before (no_row_left c.args.rows.now (sym c.if-is_empty.true ∙ c.is_empty.ensures))

pub returns : goal.returns
returns c has here before =
    let k = c.args.k in
    let gs = lists c.args.groups.now in
    let small = λ (i : ℕ). number_fits (λ p. is_set k gs p i) k 64 c.requires.narrow in
    ends_more has (code_of k gs) c.args.q c.args.rows.now c.args.ends here before small (row_left c.args.rows.now (sym c.if-is_empty.false ∙ c.is_empty.ensures)) c.least_in.result c.greatest_in.result c.least_in.ensures c.greatest_in.ensures
