use Rattle.std.proofs.Common.{sym, ℕ, ◌*◌, ◌+◌, ◌-◌, ◌^◌, ◌≡◌, ◌∙◌}
use Rattle.bw_mask.specs.Masks.{row_in}
use Rattle.bw_code.specs.Columns.{code_at}
use Rattle.bw_aggregate.specs.Descents.{front}
use Rattle.bw_aggregate.proofs.LeftRows.{none_of}
use Rattle.bw_aggregate.proofs.Marks.{none_marked}
use Rattle.bw_aggregate.proofs.NearRows.{left_near}
use Rattle.bw_aggregate.proofs.Nearest.{nearest_none, nearest_of_all, nearest_zero}
use Rattle.bw_aggregate.proofs.nearest_planes.nearest_among.Goals as goal

pub returns-then-best-eq0 : goal.returns-then-best-eq0
returns-then-best-eq0 c =
    nearest_zero 256 (row_in c.args.rows.now) (λ (j : ℕ). code_at c.args.codes.now (256 * c.args.q + j)) c.args.end (2 ^ c.args.codes.now.width - 1) c.args.best c.if-best-eq0.true

pub returns-then-has_row : goal.returns-then-has_row
returns-then-has_row c =
    let codes = c.args.codes.now in
    let m = codes.width - 4 * c.args.groups in
    let code = λ (j : ℕ). code_at codes (256 * c.args.q + j) in
    let none : front m c.args.best ≡ 0 = rw c.width.ensures.width at c.if-best-width-ne0.false in
    let near = left_near m (row_in c.args.rows.now) (row_in c.args.near.now) code c.args.end (2 ^ codes.width - 1) c.args.best c.requires.near none in
    nearest_of_all 256 (row_in c.args.rows.now) (row_in c.args.near.now) code c.args.end (2 ^ codes.width - 1) c.args.best c.nearest_in_segment-then-has_row.result near.within near.out c.nearest_in_segment-then-has_row.ensures

pub returns-else-has_row : goal.returns-else-has_row
returns-else-has_row c =
    let codes = c.args.codes.now in
    let m = codes.width - 4 * c.args.groups in
    let code = λ (j : ℕ). code_at codes (256 * c.args.q + j) in
    let none : front m c.args.best ≡ 0 = rw c.width.ensures.width at c.if-best-width-ne0.false in
    let near = left_near m (row_in c.args.rows.now) (row_in c.args.near.now) code c.args.end (2 ^ codes.width - 1) c.args.best c.requires.near none in
    let no_row = none_marked 256 (row_in c.args.near.now) (none_of _ (sym c.has_row.ensures ∙ c.if-has_row.false)) in
    nearest_of_all 256 (row_in c.args.rows.now) (row_in c.args.near.now) code c.args.end (2 ^ codes.width - 1) c.args.best c.args.best near.within near.out
    (nearest_none 256 (row_in c.args.near.now) code c.args.end (2 ^ codes.width - 1) c.args.best no_row)
