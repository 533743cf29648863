use Rattle.std.proofs.Common.{◌-◌, length}
use Rattle.bw_lex.proofs.Splits.{Splitting}
use Rattle.bw_lex.proofs.script.parts.Given as goal

-- the parts before this place are found
abbrev pub invariant-loop-parts : goal.invariant-loop-parts
invariant-loop-parts l = Splitting l.script l.parts.items l.start

abbrev pub decreases-loop-parts : goal.decreases-loop-parts
decreases-loop-parts l = length l.script - l.start
