use Rattle.std.proofs.Common.{◌≡◌, true, map, take}
use Rattle.bw_model.specs.Store.{are_distinct}
use Rattle.bw_engine.proofs.create.twice_by_search.Given as goal

-- the names so far are distinct
abbrev pub invariant-loop-i : goal.invariant-loop-i
invariant-loop-i l = are_distinct (take l.i (map (λ c. c.name) l.columns)) ≡ true
