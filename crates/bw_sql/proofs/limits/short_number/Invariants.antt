use Rattle.std.proofs.Common.{◌≡◌, drop}
use Rattle.bw_sql.specs.Terminals.{number_value, value_after}
use Rattle.bw_sql.proofs.limits.short_number.Given as goal

-- the digits that are left make the whole number of the number so far
abbrev pub invariant-loop-digit : goal.invariant-loop-digit
invariant-loop-digit l = value_after l.n (drop l.digit-index l.digits) ≡ number_value l.digits
