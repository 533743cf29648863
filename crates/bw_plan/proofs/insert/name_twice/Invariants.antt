use Rattle.std.proofs.Common.{◌≡◌, true, take}
use Rattle.bw_model.specs.Store.{are_distinct}
use Rattle.bw_plan.proofs.insert.name_twice.Given as goal

-- the names so far are distinct
abbrev pub invariant-loop-i : goal.invariant-loop-i
invariant-loop-i l = are_distinct (take l.i l.names) ≡ true
