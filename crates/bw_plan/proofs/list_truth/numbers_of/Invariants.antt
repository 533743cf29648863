use Rattle.std.proofs.Common.{take, ◌≡◌}
use Rattle.bw_column.specs.Values.{known}
use Rattle.bw_plan.proofs.list_truth.numbers_of.Given as goal

abbrev pub invariant-loop-entry : goal.invariant-loop-entry
invariant-loop-entry l = l.numbers.items ≡ known (take l.entry-index l.entries)
