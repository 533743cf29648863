use Rattle.std.proofs.Common.{◌≡◌, drop}
use Rattle.bw_model.specs.Changes.{chosen_header}
use Rattle.bw_model.proofs.rebuild.chosen_header.Given as goal

-- the choices before this one are of another column
abbrev pub invariant-loop-choice : goal.invariant-loop-choice
invariant-loop-choice l = chosen_header (drop l.choice-index l.choices) l.header ≡ chosen_header l.choices l.header
