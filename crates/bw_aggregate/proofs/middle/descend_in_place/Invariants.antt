use Rattle.std.proofs.Common.{List, ℕ, ◌-◌}
use Rattle.bw_aggregate.specs.Descending.{IsDescent}
use Rattle.bw_aggregate.proofs.middle.descend_in_place.Given as goal

abbrev pub invariant-planes : goal.invariant-planes
invariant-planes l = (held : List ℕ) (n : ℕ) → IsDescent l.codes.codes held n l.codes.width l.fn.descent → IsDescent l.codes.codes held n (l.codes.width - l.i) l.descent
