use Rattle.std.proofs.Common.{◌≡◌, drop}
use Rattle.bw_model.specs.Changes.{source_for}
use Rattle.bw_model.proofs.update.updated_value.Given as goal

-- the sets before this one set another column
abbrev pub invariant-loop-set : goal.invariant-loop-set
invariant-loop-set l = source_for (drop l.set-index l.sets) l.name ≡ source_for l.sets l.name
