use Rattle.std.proofs.Common.{map, sym}
use Rattle.bw_model.specs.Select.{said_in}
use Rattle.bw_model.proofs.Lines.{joined_next}
use Rattle.bw_model.proofs.select.lines_in.Goals as goal

pub loop-group-preserved : goal.loop-group-preserved
loop-group-preserved c =
    rw (c.in_ok-append.ensures.items, c.in_ok-line.ensures, c.loop-group.invariant)
    (sym (joined_next (λ group. map (said_in c.args.headers.now group) c.args.list.now) c.args.groups.now c.loop-group.group-index c.group-item.result c.loop-group-test.true c.group-item.is))
