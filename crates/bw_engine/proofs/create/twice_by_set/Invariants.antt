use Rattle.std.proofs.Common.{◌≡◌, true, map, take}
use Rattle.bw_model.specs.Store.{are_distinct}
use Rattle.bw_engine.proofs.create.twice_by_set.Given as goal

-- the set holds the names so far, which are distinct
abbrev pub invariant-loop-column : goal.invariant-loop-column
invariant-loop-column l = record {
  seen : map (λ name. name.now) l.names.keys ≡ take l.column-index (map (λ c. c.name) l.columns);
  distinct : are_distinct (take l.column-index (map (λ c. c.name) l.columns)) ≡ true;
}
