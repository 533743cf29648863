use Rattle.std.proofs.Common.{arith, drop, get_or, length, rules, subst, sym, take, ◌+◌, ◌≡◌}
use Rattle.bw_aggregate.specs.Digits.{front_count}
use Rattle.bw_aggregate.specs.Runs.{IsRun}
use Rattle.bw_aggregate.proofs.DigitCounts.{front_none}
use Rattle.bw_aggregate.proofs.digits.count_at.Goals as goal

pub returns-then-rows-eq0-clause-counted : goal.returns-then-rows-eq0-clause-counted
returns-then-rows-eq0-clause-counted g c need d same run low =
    let none = front_none need (g.C.CodeColumn.seen c.args.column.now).codes c.args.at c.args.n c.args.digits.below (c.args.digits.first + d) same (subst (λ w. IsRun need c.args.at c.args.n w) c.if-rows-eq0.true run) in
    omega (arith, none)

pub returns-clause-counted : goal.returns-clause-counted
returns-clause-counted g c need d same run low =
    let all = (g.C.CodeColumn.seen c.args.column.now).codes in
    let out = c.read.new.out in
    let long : length out ≡ c.args.n = search rules in
    let is : out ≡ take (length out) (drop c.args.at all) = search rules in
    let counts = c.count_run.new.counts in
    subst (λ k. get_or counts d 0 + front_count need all c.args.at c.args.digits.below (c.args.digits.first + d) ≡ get_or c.args.counts.now d 0 + front_count need all (c.args.at + k) c.args.digits.below (c.args.digits.first + d)) long
    (c.count_run.ensures.counted need all c.args.at d same is (subst (λ k. IsRun need c.args.at k c.args.rows) (sym long) run) low)
