use Rattle.std.proofs.Common.{get_or}
use Rattle.bw_mask.specs.Masks.{bit_of}
use Rattle.bw_column.specs.Extremes.{IsGreatestFrom}
use Rattle.bw_column.proofs.ends.greatest_from.Given as goal

abbrev pub invariant-loop-i : goal.invariant-loop-i
invariant-loop-i l = IsGreatestFrom l.start l.i (bit_of l.present) (λ i. get_or l.codes i 0) l.greatest
