use Rattle.std.proofs.Common.{◌≡◌, ◌<◌, ◌^◌, length, IsTrue}
use Rattle.std.specs.Char.{is_ascii_digit}
use Rattle.std.specs.List.{list_all}
use Rattle.bw_sql.specs.Terminals.{number_value, value_after}
use Rattle.bw_sql.proofs.limits.long_number.Given as goal

-- the digits that are left make the whole number of the number so far
abbrev pub invariant-loop-rest : goal.invariant-loop-rest
invariant-loop-rest l = (value_after l.n l.rest ≡ number_value l.digits) × IsTrue (list_all is_ascii_digit l.rest) × (l.n < 2 ^ 64)

abbrev pub decreases-loop-rest : goal.decreases-loop-rest
decreases-loop-rest l = length l.rest
