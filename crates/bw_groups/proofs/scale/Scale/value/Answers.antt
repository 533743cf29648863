use Rattle.std.proofs.Common.{arith}
use Rattle.std.proofs.lemmas.Int.{ints}
use Rattle.bw_groups.proofs.scale.Scale.value.Goals as goal

pub value_at-requires : goal.value_at-requires
value_at-requires c = omega (arith, ints, c.args.self.now.above)
