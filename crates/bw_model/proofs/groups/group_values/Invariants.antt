use Rattle.std.proofs.Common.{◌≡◌, Some, map}
use Rattle.bw_model.proofs.groups.group_values.Given as goal

abbrev pub invariant-loop-number : goal.invariant-loop-number
invariant-loop-number l = l.list.items ≡ map Some l.yielded
