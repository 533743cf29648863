use Rattle.std.proofs.Common.{◌≡◌, map, take}
use Rattle.bw_model.specs.Changes.{source_for}
use Rattle.bw_model.specs.Condition.{value_of}
use Rattle.bw_model.proofs.update.updated_row.Given as goal

abbrev pub invariant-loop-header : goal.invariant-loop-header
invariant-loop-header l = l.new.items ≡ map (λ header. value_of l.headers l.row (source_for l.sets header.name)) (take l.header-index l.headers)
