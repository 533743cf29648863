use Rattle.std.proofs.Common.{◌≡◌, map, drop}
use Rattle.std.specs.Char.{to_ascii_uppercase}
use Rattle.bw_sql.specs.Names.{spelled_among}
use Rattle.bw_sql.proofs.keyword.found_among.Given as goal

-- what is found among the entries that are left is what is found among all
abbrev pub invariant-loop-spelling : goal.invariant-loop-spelling
invariant-loop-spelling l =
    spelled_among (map (λ entry. (entry.0.now, entry.1)) (drop l.spelling-index l.entries)) (map to_ascii_uppercase l.word)
    ≡ spelled_among (map (λ entry. (entry.0.now, entry.1)) l.entries) (map to_ascii_uppercase l.word)
