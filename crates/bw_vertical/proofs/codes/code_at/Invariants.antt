use Rattle.std.proofs.Common.{◌≡◌}
use Rattle.bw_vertical.specs.Storage.{is_set, lists}
use Rattle.bw_vertical.proofs.Numbers.{number}
use Rattle.bw_vertical.proofs.codes.code_at.Given as goal

-- the number of the planes so far
abbrev pub invariant-loop-i : goal.invariant-loop-i
invariant-loop-i l = l.code ≡ number (λ i. is_set l.k (lists l.groups) i l.j) l.i
