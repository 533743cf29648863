use Rattle.std.proofs.Common.{List, ap, ℕ, ◌∙◌}
use Rattle.bw_mask.specs.Masks.{row_at}
use Rattle.bw_code.specs.Encodings.{width}
use Rattle.bw_code.specs.Meters.{raised}
use Rattle.bw_code.specs.Units.{units_of_scan}
use Rattle.bw_column.specs.Storing.{layout_of, list_of}
use Rattle.bw_column.proofs.Scans.{all_codes, known_met}
use Rattle.bw_column.proofs.column.Column.find_known.Goals as goal

pub returns-clause-rows : goal.returns-clause-rows
returns-clause-rows c holds exact i =
    rw (← c.self.view_is) (c.scan.ensures.rows i
    ∙ known_met c.self.inside.encoding (list_of c.self.inside.codes) c.self.inside.nonnull c.self.invariant c.args.test holds (rw (← c.self.view_is) at exact) (row_at c.args.known.now i) i (rw (← c.self.view_is) at c.requires.known i))

pub returns-clause-units : goal.returns-clause-units
returns-clause-units c =
    let e = c.self.inside.encoding in
    let codes = (list_of c.self.inside.codes) in
    let needed = row_at c.args.known.now in
    let old = c.args.meter.now in
    rw (← c.self.view_is) (
    c.scan.ensures.units
    ∙ ap (λ (k : ℕ). raised old (units_of_scan (layout_of c.self.inside.codes) k c.args.test needed codes.codes)) c.self.invariant.width
    ∙ ap (λ (xs : List ℕ). raised old (units_of_scan (layout_of c.self.inside.codes) (width e) c.args.test needed xs)) (all_codes e codes c.self.inside.nonnull c.self.invariant))
