use Rattle.std.proofs.Common.{◌≡◌, map, take}
use Rattle.bw_model.specs.Changes.{chosen_header}
use Rattle.bw_model.proofs.rebuild.headers_chosen.Given as goal

abbrev pub invariant-loop-header : goal.invariant-loop-header
invariant-loop-header l = l.chosen.items ≡ map (chosen_header l.choices) (take l.header-index l.headers)
