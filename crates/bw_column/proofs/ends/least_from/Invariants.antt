use Rattle.std.proofs.Common.{get_or}
use Rattle.bw_mask.specs.Masks.{bit_of}
use Rattle.bw_column.specs.Extremes.{IsLeastFrom}
use Rattle.bw_column.proofs.ends.least_from.Given as goal

abbrev pub invariant-loop-i : goal.invariant-loop-i
invariant-loop-i l = IsLeastFrom l.start l.i (bit_of l.present) (λ i. get_or l.codes i 0) l.least
