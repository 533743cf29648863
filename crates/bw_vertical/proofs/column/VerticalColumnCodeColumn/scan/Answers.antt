use Rattle.std.proofs.Common.{ap, arith, ℕ, ◌≡◌, ◌∙◌}
use Rattle.bw_mask.specs.Masks.{len, row_at}
use Rattle.bw_code.specs.Columns.{CodeList}
use Rattle.bw_code.specs.Meters.{raised}
use Rattle.bw_code.specs.Units.{by_planes, scan_units, segments_of}
use Rattle.bw_vertical.specs.Planes.{code_in}
use Rattle.bw_vertical.proofs.Scanned.{units_scanned}
use Rattle.bw_vertical.proofs.column.VerticalColumnCodeColumn.scan.Goals as goal

pub returns-clause-units : goal.returns-clause-units
returns-clause-units c =
    let k = c.args.self.now.width in
    let codes = c.args.self.now.codes in
    let need = c.args.need.now in
    let us = c.planes-source.result.units in
    let wide : c.self.inside.width ≡ k = ap (λ (v : CodeList). v.width) c.self.view_is in
    let price : ℕ → ℕ → ℕ = λ w n. scan_units (by_planes w) c.args.test (row_at need) (code_in w us) (segments_of 256 n) in
    let cost = ap (λ w. price w (len need)) wide ∙ ap (price k) c.requires.need ∙ units_scanned k us codes c.planes-source.ensures.codes c.args.test (row_at need) in
    c.add.ensures ∙ ap (raised c.args.meter.now) (c.reads.ensures ∙ c.scan_from.ensures.reads ∙ omega (arith, c.planes-source.ensures.none, cost))
