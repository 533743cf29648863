use Rattle.std.proofs.Common.{◌-◌, length, drop, arith, length-drop}
use Rattle.std.proofs.lemmas.List.{take_all}
use Rattle.bw_shell.proofs.Texts.{piece_more}
use Rattle.bw_shell.proofs.writing.put.Goals as goal

pub loop-rest-preserved : goal.loop-rest-preserved
loop-rest-preserved g c =
    rw (take_all (length c.loop-rest.rest.now - c.in-Ok.n) (drop c.in-Ok.n c.loop-rest.rest.now) (omega (arith, length-drop c.in-Ok.n c.loop-rest.rest.now)))
    (piece_more _ _ _ _ _ _ c.loop-rest.invariant c.in-Ok.ensures.bytes)
