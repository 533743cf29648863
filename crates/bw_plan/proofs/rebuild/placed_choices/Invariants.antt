use Rattle.std.proofs.Common.{take}
use Rattle.bw_plan.specs.Sets.{AreChoicesFor}
use Rattle.bw_plan.proofs.rebuild.placed_choices.Given as goal

abbrev pub invariant-loop-choice : goal.invariant-loop-choice
invariant-loop-choice l = AreChoicesFor l.headers (take l.choice-index l.choices) l.placed.items
