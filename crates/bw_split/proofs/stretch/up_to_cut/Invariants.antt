use Rattle.std.proofs.Common.{◌-◌, length}
use Rattle.bw_split.specs.Stretches.{IsStretch}
use Rattle.bw_split.proofs.stretch.up_to_cut.Given as goal

-- no cut up to here
abbrev pub invariant-loop-len : goal.invariant-loop-len
invariant-loop-len l = IsStretch l.fn.progress l.bytes (record { len = l.len; progress = l.progress })

abbrev pub decreases-loop-len : goal.decreases-loop-len
decreases-loop-len l = length l.bytes - l.len
