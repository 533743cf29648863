use Rattle.std.proofs.Common.{◌≡◌, map, position, take}
use Rattle.std.specs.Str.{bytes_eq}
use Rattle.bw_plan.proofs.insert.sources_of.Given as goal

-- the places of the columns before this one
abbrev pub invariant-loop-i : goal.invariant-loop-i
invariant-loop-i l = l.sources.items ≡ take l.i (map (λ h. position (bytes_eq h.name) l.names) l.headers)
