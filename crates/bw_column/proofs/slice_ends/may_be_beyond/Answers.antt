use Rattle.std.proofs.Common.{arith}
use Rattle.bw_column.proofs.Tops.{less_by_top}
use Rattle.bw_column.proofs.slice_ends.may_be_beyond.Goals as goal

pub returns-then-least-gt0 : goal.returns-then-least-gt0
returns-then-least-gt0 c none i code h fits is =
    let k = c.args.width in
    let above = c.has_at_least.ensures.none c.if-has_at_least.false i h in
    let below = c.has_at_most.ensures.none none i h in (
      less_by_top k c.requires.some c.args.so_far.0 code c.requires.least fits (omega (arith, below, is, c.top_byte-then-least-gt0.ensures)),
      less_by_top k c.requires.some code c.args.so_far.1 fits c.requires.greatest (omega (arith, above, is, c.top_byte.ensures)),
    )

pub returns-else-least-gt0 : goal.returns-else-least-gt0
returns-else-least-gt0 c none i code h fits is =
    let above = c.has_at_least.ensures.none c.if-has_at_least.false i h in (
      omega (arith, c.if-least-gt0.false),
      less_by_top c.args.width c.requires.some code c.args.so_far.1 fits c.requires.greatest (omega (arith, above, is, c.top_byte.ensures)),
    )
