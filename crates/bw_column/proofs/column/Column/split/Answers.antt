use Rattle.std.proofs.Common.{Bool, List, ap, not, ℕ, ◌&&◌, ◌≡◌, ◌∙◌}
use Rattle.bw_mask.specs.Masks.{row_at}
use Rattle.bw_code.specs.Encodings.{width}
use Rattle.bw_code.specs.Meters.{raised}
use Rattle.bw_code.specs.Units.{units_of_scan}
use Rattle.bw_column.specs.Codes.{values_from}
use Rattle.bw_column.specs.Costs.{needed_known}
use Rattle.bw_column.specs.Storing.{layout_of, list_of}
use Rattle.bw_column.proofs.Rows.{known_rows}
use Rattle.bw_column.proofs.Scans.{all_codes, rows_met, same_rows}
use Rattle.bw_column.proofs.column.Column.split.Goals as goal

known : (c : goal.After-andnot_in) (i : ℕ) → row_at c.become_intersection.new.self i ≡ needed_known c.args.need.now (values_from c.self.inside.encoding (list_of c.self.inside.codes) c.self.inside.nonnull) i
known c i = c.become_intersection.ensures.rows i ∙ ap (λ b. row_at c.args.need.now i && b) (known_rows c.self.inside.encoding (list_of c.self.inside.codes) c.self.inside.nonnull c.self.invariant i)

pub returns-clause-trues : goal.returns-clause-trues
returns-clause-trues c holds exact i =
    rw (← c.self.view_is) (c.scan.ensures.rows i ∙ rw (c.become_intersection.ensures.rows i)
    (rows_met c.self.inside.encoding (list_of c.self.inside.codes) c.self.inside.nonnull c.self.invariant c.args.test holds (rw (← c.self.view_is) at exact) (row_at c.args.need.now i) i))

pub returns-clause-falses : goal.returns-clause-falses
returns-clause-falses c i = rw (← c.self.view_is) (c.andnot_in.ensures.rows i ∙ ap (λ b. b && not (row_at c.scan.new.out i)) (known c i))

pub returns-clause-units : goal.returns-clause-units
returns-clause-units c =
    let e = c.self.inside.encoding in
    let codes = (list_of c.self.inside.codes) in
    let nonnull = c.self.inside.nonnull in
    let test = c.args.test in
    let values = values_from e codes nonnull in
    let rows : row_at c.become_intersection.new.self ≡ needed_known c.args.need.now values = same_rows _ _ (known c) in
    rw (← c.self.view_is) (
    c.scan.ensures.units
    ∙ ap (λ (needed : ℕ → Bool). raised c.args.meter.now (units_of_scan (layout_of c.self.inside.codes) codes.width test needed codes.codes)) rows
    ∙ ap (λ (k : ℕ). raised c.args.meter.now (units_of_scan (layout_of c.self.inside.codes) k test (needed_known c.args.need.now values) codes.codes)) c.self.invariant.width
    ∙ ap (λ (xs : List ℕ). raised c.args.meter.now (units_of_scan (layout_of c.self.inside.codes) (width e) test (needed_known c.args.need.now values) xs)) (all_codes e codes nonnull c.self.invariant))
