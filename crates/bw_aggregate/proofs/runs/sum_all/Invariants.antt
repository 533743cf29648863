use Rattle.std.proofs.Common.{sum, take, ◌*◌, ◌^◌, ◌≡◌, ◌≤◌}
use Rattle.bw_aggregate.proofs.runs.sum_all.Given as goal

abbrev pub invariant-codes : goal.invariant-codes
invariant-codes l = record { sum : l.sum ≡ sum (take l.i l.codes); small : l.sum ≤ l.i * 2 ^ 32 }
