use Rattle.std.proofs.Common.{◌≡◌, ◌≤◌, drop, length, take, vec_len}
use Rattle.bw_table.specs.Sets.{AllSet}
use Rattle.bw_table.proofs.setting.apply_sets.Given as goal

-- what the sets from the rest on say is done
abbrev pub invariant-loop-change : goal.invariant-loop-change
invariant-loop-change l = record {
  few : vec_len l.rest ≤ length l.sets;
  rest : l.rest.items ≡ take (vec_len l.rest) l.fn.changes.items;
  set : AllSet l.found (drop (vec_len l.rest) l.sets) l.columns.items l.fn.columns.items;
}

abbrev pub decreases-loop-change : goal.decreases-loop-change
decreases-loop-change l = vec_len l.rest
