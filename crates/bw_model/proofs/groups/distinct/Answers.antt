use Rattle.std.specs.Ordering.{int_eq}
use Rattle.std.proofs.lemmas.List.Filters.{dedup_is}
use Rattle.bw_model.proofs.groups.distinct.Goals as goal

pub returns : goal.returns
returns c = rw (c.in_ok-numbers.ensures, c.deref.ensures.value, c.in_ok-known.ensures) at (dedup_is int_eq _ _ c.dedup.ensures.filtered)
