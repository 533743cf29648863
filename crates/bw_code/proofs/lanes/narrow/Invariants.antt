use Rattle.std.proofs.Common.{take, ◌≡◌}
use Rattle.bw_code.proofs.lanes.narrow.Given as goal

abbrev pub invariant-loop-i : goal.invariant-loop-i
invariant-loop-i l = take l.i l.out ≡ take l.i l.codes
