use Rattle.std.proofs.Common.{refl, sym, true, ◌≡◌, ◌∙◌}
use Rattle.bw_mask.specs.Masks.{len, row_at}
use Rattle.bw_code.specs.Units.{some_below, units_of_addition}
use Rattle.bw_code.proofs.Reach.{none_if}
use Rattle.bw_vertical.proofs.Sums.{some_row}
use Rattle.bw_column.proofs.pair_codes.units_of_planes.Goals as goal

pub returns-then-any : goal.returns-then-any
unfolding units_of_addition
returns-then-any c =
    let known = c.args.known.now in
    let some : some_below (len known) (row_at known) ≡ true = some_row known.rows (sym c.any.ensures.rows ∙ c.if-any.true) in
    rw (some, c.from.ensures, c.div_ceil.ensures, c.len.ensures.rows) refl

pub returns-else-any : goal.returns-else-any
unfolding units_of_addition
returns-else-any c =
    let known = c.args.known.now in
    rw (none_if (len known) (row_at known) (λ j _. c.any.ensures.none c.if-any.false j)) refl
