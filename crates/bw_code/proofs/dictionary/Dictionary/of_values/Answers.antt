use Rattle.std.proofs.Common.{◌∙◌}
use Rattle.std.specs.Ordering.{int_eq}
use Rattle.std.proofs.lemmas.List.Filters.{dedup_is}
use Rattle.bw_code.proofs.Distinct.{distinct}
use Rattle.bw_code.proofs.dictionary.Dictionary.of_values.Goals as goal

pub invariant_of-result : goal.invariant_of-result
invariant_of-result c = (distinct _ _ _ c.sort_unstable.ensures.permutation c.sort_unstable.ensures.sorted (c.shrink_to_fit.ensures.items ∙ dedup_is int_eq _ _ c.dedup.ensures.filtered)).ascending

pub returns : goal.returns
returns c = rw (← c.in_ok-entries.ensures.items) (distinct _ _ _ c.sort_unstable.ensures.permutation c.sort_unstable.ensures.sorted (c.shrink_to_fit.ensures.items ∙ dedup_is int_eq _ _ c.dedup.ensures.filtered))
