use Rattle.std.proofs.Common.{false, take, ◌≡◌}
use Rattle.std.specs.Prelude.{is_none}
use Rattle.std.specs.List.{list_any}
use Rattle.bw_plan.proofs.list_truth.has_null.Given as goal

abbrev pub invariant-loop-entry : goal.invariant-loop-entry
invariant-loop-entry l = list_any is_none (take l.entry-index l.entries) ≡ false
