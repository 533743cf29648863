use Rattle.std.proofs.Common.{drop, map, take, ◌++◌, ◌≡◌}
use Rattle.std.specs.Prelude.{option_map}
use Rattle.bw_groups.specs.Entries.{entry_of}
use Rattle.bw_groups.proofs.groups.entries_at.Given as goal

-- the indices before g are replaced
abbrev pub invariant-groups : goal.invariant-groups
invariant-groups l = l.values.items ≡ map (option_map (entry_of l.entries)) (take l.g l.fn.values.items) ++ drop l.g l.fn.values.items
