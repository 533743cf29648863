use Rattle.std.proofs.Common.{◌≡◌}
use Rattle.bw_mask.specs.Masks.{len}
use Rattle.test_codes.proofs.plain_codes.two_of_three.Given as goal

abbrev pub invariant-loop-row : goal.invariant-loop-row
invariant-loop-row g l = len l.need ≡ l.rows
