use Rattle.std.proofs.Common.{sym, ◌∙◌}
use Rattle.bw_mask.specs.Masks.{len, row_at}
use Rattle.test_codes.proofs.UnitLemmas.{addition_of_none, addition_of_some}
use Rattle.test_codes.proofs.units.addition_units.Goals as goal

pub returns-then-is_some_needed : goal.returns-then-is_some_needed
returns-then-is_some_needed c =
    rw (c.from.ensures, c.div_ceil.ensures, c.len.ensures.rows)
    (sym (addition_of_some c.args.width c.args.other_width (len c.args.need.now) (row_at c.args.need.now) (sym c.is_some_needed.ensures ∙ c.if-is_some_needed.true)))

pub returns-else-is_some_needed : goal.returns-else-is_some_needed
returns-else-is_some_needed c = sym (addition_of_none c.args.width c.args.other_width (len c.args.need.now) (row_at c.args.need.now) (sym c.is_some_needed.ensures ∙ c.if-is_some_needed.false))
