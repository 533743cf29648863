use Rattle.std.proofs.Common.{None, arith, drop, length, take, ◌*◌, ◌≤◌, ◌∙◌, ap}
use Rattle.bw_code.proofs.Lists.{part_is}
use Rattle.bw_column.proofs.column.Column.read.Goals as goal

pub returns : goal.returns
returns c =
    let values = c.args.self.now.values in
    let whole : length c.args.out.now ≤ 64 * c.loop-q.q = omega (arith, c.div_ceil-q-end.ensures, c.loop-q-test.false) in
    part_is values c.loop-q.out c.args.at None (omega (arith, c.requires, c.loop-q.auto.out)) (λ k h. c.loop-q.invariant k (omega (arith, whole, h, c.loop-q.auto.out)) h)
    ∙ ap (λ n. take n (drop c.args.at values)) c.loop-q.auto.out
