use Rattle.std.proofs.Common.{drop, map, ◌≡◌}
use Rattle.bw_sql.specs.Names.{are_distinct}
use Rattle.bw_file.proofs.headers.has_name_twice.Given as goal

-- no name before those that are left stands twice
abbrev pub invariant-names : goal.invariant-names
invariant-names l = are_distinct (map (λ header. header.name) l.headers) ≡ are_distinct (map (λ header. header.name) (drop l.i l.headers))
