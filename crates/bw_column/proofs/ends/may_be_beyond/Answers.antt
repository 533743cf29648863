use Rattle.std.proofs.Common.{arith, get_or, ◌-◌, ◌<◌}
use Rattle.bw_column.proofs.LentEnds.{within}
use Rattle.bw_column.proofs.ends.may_be_beyond.Goals as goal

pub returns : goal.returns
returns c none i h on =
    let low : i < 64 = omega (arith, h, c.if-codes-ne64.false) in
    let inside = c.rows_between.result in
    let ends = within c.args.present inside i c.args.so_far.0 (c.args.so_far.1 - c.args.so_far.0) (get_or c.args.codes.now i 0) c.rows_between.type_inv low none (c.rows_between.ensures i low) on in (
      omega (arith, ends.0),
      omega (arith, ends.1, c.requires.order),
    )
