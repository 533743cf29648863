use Rattle.std.proofs.Common.{slice_index_or, ℕ, ◌<◌, ◌≢◌}
use Rattle.bw_plan.specs.declared.select.FunctionPlan.{FunctionPlan}
use Rattle.bw_engine.proofs.set_functions.is_asked.Given as goal

-- none of those so far is it
abbrev pub invariant-loop-i : goal.invariant-loop-i
invariant-loop-i l = (k : ℕ) (d : FunctionPlan) → k < l.i → slice_index_or l.functions k d ≢ l.function
