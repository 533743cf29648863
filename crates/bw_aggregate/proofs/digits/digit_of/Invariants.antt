use Rattle.std.proofs.Common.{sum, take, ◌+◌, ◌≡◌}
use Rattle.bw_aggregate.proofs.digits.digit_of.Given as goal

abbrev pub invariant-digits : goal.invariant-digits
invariant-digits l = sum (take l.digit l.counts) + l.rest ≡ l.nth
