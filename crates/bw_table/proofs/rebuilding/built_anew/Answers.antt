use Rattle.std.proofs.Common.{arith, count_by, length, ◌≡◌}
use Rattle.bw_column.specs.Places.{chosen_values}
use Rattle.bw_column.specs.Values.{IsNullOrHeld}
use Rattle.bw_column.proofs.Ordered.{all_chosen}
use Rattle.bw_table.specs.Changes.{chosen_layout}
use Rattle.bw_table.proofs.Places.{all_chosen_values}
use Rattle.bw_table.proofs.rebuilding.built_anew.Goals as goal

-- where all rows are in
all : (c : goal.After-rebuild) → chosen_values c.args.mask.now c.args.own.now.values ≡ c.args.own.now.values
all c =
    let count : count_by (λ row. row) c.args.mask.now.rows ≡ length c.args.own.now.values = omega (arith, c.count.ensures.rows, c.len.ensures.count, c.if-count-len.true) in
    all_chosen_values c.args.mask.now c.args.own.now.values c.requires.long count

pub returns-then-count-len-clause-values : goal.returns-then-count-len-clause-values
returns-then-count-len-clause-values c = rw (all c) c.rebuild.ensures.values

pub returns-then-count-len-clause-fits : goal.returns-then-count-len-clause-fits
returns-then-count-len-clause-fits c = rw (all c) c.rebuild.ensures.fits

pub built_as-requires-clause-held : goal.built_as-requires-clause-held
built_as-requires-clause-held c =
    let held = all_chosen (IsNullOrHeld (chosen_layout c.args.choice c.args.own.now.layout)) c.args.mask.now c.args.own.now.values tt c.requires.held in
    rw c.in_ok-cells.ensures.cells held
