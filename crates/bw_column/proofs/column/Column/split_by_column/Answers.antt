use Rattle.std.proofs.Common.{Bool, ap, is_some, refl, ℕ, ◌&&◌, ◌≡◌, ◌∙◌}
use Rattle.bw_mask.specs.Masks.{row_at}
use Rattle.bw_code.specs.Meters.{raised}
use Rattle.bw_column.specs.Costs.{needed_known, units_of_both}
use Rattle.bw_column.specs.Values.{value_at}
use Rattle.bw_column.proofs.Scans.{same_rows}
use Rattle.bw_column.proofs.column.Column.split_by_column.Goals as goal

pub returns-clause-units : goal.returns-clause-units
returns-clause-units c =
    let known : ℕ → Bool = λ i. needed_known c.args.need.now c.args.self.now.values i && is_some (value_at c.args.other.now.values i) in
    let rows : row_at c.and_in.new.self ≡ known = same_rows (row_at c.and_in.new.self) known (λ i. c.and_in.ensures.rows i ∙ rw (c.become_intersection.ensures.rows i, c.nonnull.ensures.rows i, c.nonnull-2.ensures.rows i) refl) in
    c.compare_known.ensures.units ∙ ap (λ (needed : ℕ → Bool). raised c.args.meter.now (units_of_both c.args.self.now c.args.other.now needed)) rows
