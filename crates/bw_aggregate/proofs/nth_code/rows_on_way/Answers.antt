use Rattle.std.proofs.Common.{ap, arith, pow_pos, ◌&&◌, ◌/◌, ◌<◌, ◌==◌, ◌∙◌}
use Rattle.bw_mask.specs.Masks.{row_at}
use Rattle.bw_code.specs.Columns.{code_at}
use Rattle.bw_aggregate.proofs.DigitCounts.{range_is}
use Rattle.bw_aggregate.proofs.nth_code.rows_on_way.Goals as goal

pub returns-clause-rows : goal.returns-clause-rows
returns-clause-rows g c r =
    let column = g.C.CodeColumn.seen c.args.column.now in
    let way = c.args.way in
    let size = c.codes_below-size.result in
    let some : 0 < size = omega (arith, c.codes_below-size.ensures, pow_pos way.below) in
    c.scan.ensures.rows r
    ∙ ap (λ b. row_at c.args.rows.now r && b) (range_is (code_at column r) way.found size some ∙ ap (λ s. code_at column r / s == way.found) c.codes_below-size.ensures)
