use Rattle.std.proofs.Common.{ap, arith, drop, length, take, ◌+◌, ◌≤◌, ◌∙◌}
use Rattle.bw_engine.proofs.LiveValues.{masked_long, masked_run, run_long}
use Rattle.bw_engine.proofs.live_ends.LiveOrNullCells.read.Goals as goal

pub read-requires : goal.read-requires
read-requires c = omega (arith, c.requires, ap length c.self.view_is, masked_long c.self.inside.live.now c.self.inside.column.now.values)

pub blank_dead-requires-clause-there : goal.blank_dead-requires-clause-there
blank_dead-requires-clause-there c =
    let values = c.self.inside.column.now.values in
    let low : c.args.at + length c.args.out.now ≤ length values = omega (arith, c.requires, ap length c.self.view_is, masked_long c.self.inside.live.now values) in
    omega (arith, low, ap length c.read.ensures, run_long (length c.args.out.now) c.args.at values low, c.self.invariant)

pub blank_dead-requires-clause-few : goal.blank_dead-requires-clause-few
blank_dead-requires-clause-few c =
    let values = c.self.inside.column.now.values in
    let low : c.args.at + length c.args.out.now ≤ length values = omega (arith, c.requires, ap length c.self.view_is, masked_long c.self.inside.live.now values) in
    omega (arith, low, ap length c.read.ensures, run_long (length c.args.out.now) c.args.at values low, c.len-few.ensures.few, c.len-few.ensures.count)

pub returns : goal.returns
returns c =
    let n = length c.args.out.now in
    let values = c.self.inside.column.now.values in
    let low : c.args.at + n ≤ length values = omega (arith, c.requires, ap length c.self.view_is, masked_long c.self.inside.live.now values) in
    masked_run c.self.inside.live.now values c.blank_dead.new.out c.read.new.out c.args.at n low c.read.ensures c.blank_dead.ensures.len c.blank_dead.ensures.each
    ∙ ap (λ l. take n (drop c.args.at l)) c.self.view_is
