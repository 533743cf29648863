use Rattle.std.proofs.Common.{arith, ◌^◌, ◌≤◌}
use Rattle.std.proofs.Math.Nat.{pow-le-pow_right}
use Rattle.bw_aggregate.proofs.nth_code.digits_of.Goals as goal

pub returns-clause-most : goal.returns-clause-most
returns-clause-most c =
    let most : 2 ^ c.args.bits ≤ 2 ^ 11 = pow-le-pow_right {n = 2} (omega arith) {i = c.args.bits} {j = 11} c.requires in
    omega (arith, most)
