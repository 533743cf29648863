use Rattle.std.proofs.Common.{drop, ◌≡◌}
use Rattle.bw_mask.specs.Truth.{or_of}
use Rattle.bw_model.specs.Condition.{is_one_of}
use Rattle.bw_plan.proofs.list_truth.one_of.Given as goal

-- the entries so far and those that are left give the truth of the whole
abbrev pub invariant-loop-entry : goal.invariant-loop-entry
invariant-loop-entry l = or_of l.found (is_one_of l.fn.value (drop l.entry-index l.entries)) ≡ is_one_of l.fn.value l.entries
