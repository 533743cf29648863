use Rattle.std.proofs.Common.{sym}
use Rattle.bw_mask.specs.Masks.{row_at}
use Rattle.test_codes.proofs.UnitLemmas.{some_more, some_none}
use Rattle.test_codes.proofs.units.is_some_needed.Goals as goal

pub loop-row-init : goal.loop-row-init
loop-row-init c = sym (some_none _)

pub loop-row-preserved : goal.loop-row-preserved
loop-row-preserved c = rw (c.loop-row.invariant, c.is_needed-is_some.ensures) (sym (some_more c.loop-row.row (row_at c.args.need.now)))
