use Rattle.std.proofs.Common.{List, ap, sym, ℕ, ◌≡◌, ◌∙◌}
use Rattle.bw_mask.specs.Masks.{row_at}
use Rattle.bw_code.specs.Encodings.{width}
use Rattle.bw_code.specs.Meters.{raised}
use Rattle.bw_code.specs.Units.{units_of_pair}
use Rattle.bw_column.specs.Codes.{codes_for, values_from}
use Rattle.bw_column.specs.Storing.{layout_of, list_of}
use Rattle.bw_column.proofs.PairRows.{codes_met}
use Rattle.bw_column.proofs.Scans.{all_codes}
use Rattle.bw_column.proofs.column.Column.compare_codes.Goals as goal

pub returns-clause-rows : goal.returns-clause-rows
returns-clause-rows c i =
    let e = c.self.inside.encoding in
    let d = c.other.inside.encoding in
    let same : e ≡ d = rw (← c.self.view_is, ← c.other.view_is) at (sym c.requires.encoding) in
    rw (← c.self.view_is, ← c.other.view_is) (c.scan_pair.ensures.rows i
    ∙ codes_met c.args.op e d (list_of c.self.inside.codes) (list_of c.other.inside.codes) c.self.inside.nonnull c.other.inside.nonnull c.self.invariant c.other.invariant i same
    (row_at c.args.known.now i) (rw (← c.self.view_is, ← c.other.view_is) at (c.requires.there i)))

pub returns-clause-units : goal.returns-clause-units
returns-clause-units c =
    let e = c.self.inside.encoding in
    let d = c.other.inside.encoding in
    let codes = list_of c.self.inside.codes in
    let others = list_of c.other.inside.codes in
    let layout = layout_of c.self.inside.codes in
    let old = c.args.meter.now in
    let known = row_at c.args.known.now in
    rw (← c.self.view_is, ← c.other.view_is) (
    c.scan_pair.ensures.units
    ∙ ap (λ (k : ℕ). raised old (units_of_pair layout k known codes.codes others.codes)) c.self.invariant.width
    ∙ ap (λ (xs : List ℕ). raised old (units_of_pair layout (width e) known xs others.codes)) (all_codes e codes c.self.inside.nonnull c.self.invariant)
    ∙ ap (λ (ys : List ℕ). raised old (units_of_pair layout (width e) known (codes_for e (values_from e codes c.self.inside.nonnull)) ys)) (all_codes d others c.other.inside.nonnull c.other.invariant))
