use Rattle.std.proofs.Common.{◌-◌, length}
use Rattle.bw_lex.specs.Fronts.{IsFront, front}
use Rattle.bw_lex.proofs.script.first_run.Given as goal

-- the script is pieces up to here
abbrev pub invariant-loop-front : goal.invariant-loop-front
invariant-loop-front l = IsFront l.script (front l.len l.is_blank)

abbrev pub decreases-loop-front : goal.decreases-loop-front
decreases-loop-front l = length l.script - l.len
