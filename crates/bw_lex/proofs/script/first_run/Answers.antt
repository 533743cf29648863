use Rattle.std.proofs.Common.{sym, arith}
use Rattle.bw_lex.proofs.Runs.{first_of_both, onward, second_of}
use Rattle.bw_lex.proofs.script.first_run.Goals as goal

pub overflow_add-len : goal.overflow_add-len
overflow_add-len c = let next = onward _ _ _ _ c.loop-front.invariant (sym c.in-Some.ensures) in omega (arith, next.within)

pub loop-front-preserved-then-is_blank : goal.loop-front-preserved-then-is_blank
loop-front-preserved-then-is_blank c = second_of _ _ _ _ (onward _ _ _ _ c.loop-front.invariant (sym c.in-Some.ensures)) c.if-is_blank.true

pub loop-front-preserved : goal.loop-front-preserved
loop-front-preserved c = first_of_both _ _ _ c.in-Some.front.is_blank (onward _ _ _ _ c.loop-front.invariant (sym c.in-Some.ensures)) c.if-is_blank.false
