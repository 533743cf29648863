use Rattle.std.proofs.Common.{arith}
use Rattle.bw_aggregate.specs.Runs.{upper_half}
use Rattle.bw_aggregate.proofs.Halves.{halves_are}
use Rattle.bw_aggregate.proofs.runs.upper_halves.Goals as goal

pub returns : goal.returns
returns c =
    halves_are upper_half c.args.codes.now c.codes.halves (omega (arith, c.requires, c.codes.invariant.long)) (λ k h. c.codes.invariant.each k (omega (arith, h, c.codes-test.false)))
