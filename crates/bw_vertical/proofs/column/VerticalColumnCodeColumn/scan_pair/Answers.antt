use Rattle.std.proofs.Common.{ap, arith, length, sym, ℕ, ◌*◌, ◌≡◌, ◌∙◌}
use Rattle.bw_mask.specs.Masks.{len, row_at}
use Rattle.bw_code.specs.Columns.{CodeList}
use Rattle.bw_code.specs.Meters.{raised}
use Rattle.bw_code.specs.Units.{by_planes, segments_of, side_units}
use Rattle.bw_vertical.specs.Planes.{code_in}
use Rattle.bw_vertical.proofs.Scanned.{AreCodes, units_paired}
use Rattle.bw_vertical.proofs.column.VerticalColumnCodeColumn.scan_pair.Goals as goal

twice_raised : (meter side : ℕ) → raised (raised meter side) side ≡ raised meter (2 * side)
twice_raised meter side = omega arith

pub returns-clause-units : goal.returns-clause-units
returns-clause-units c =
    let k = c.args.self.now.width in
    let codes = c.args.self.now.codes in
    let others = c.args.other.now.codes in
    let need = c.args.need.now in
    let us = c.planes-left.result.units in
    let vs = c.planes-right.result.units in
    let wide : c.self.inside.width ≡ k = ap (λ (v : CodeList). v.width) c.self.view_is in
    let also : AreCodes k vs others = λ j h. ap (λ w. code_in w vs j) (sym c.requires.width) ∙ c.planes-right.ensures.codes j h in
    let price : ℕ → ℕ → ℕ = λ w n. side_units (by_planes w) (row_at need) (code_in w us) (code_in w vs) (segments_of 256 n) in
    let side : price c.self.inside.width (len need) ≡ price k (length codes) = ap (λ w. price w (len need)) wide ∙ ap (price k) c.requires.need in
    let left : c.reads.result ≡ price k (length codes) = c.reads.ensures ∙ c.pair_from.ensures.reads ∙ omega (arith, c.planes-left.ensures.none, side) in
    let right : c.reads-2.result ≡ price k (length codes) = c.reads-2.ensures ∙ c.pair_from.ensures.other_reads ∙ omega (arith, c.planes-right.ensures.none, side) in
    c.add-2.ensures
    ∙ ap (λ m. raised m c.reads-2.result) (c.add.ensures ∙ ap (raised c.args.meter.now) left)
    ∙ ap (raised (raised c.args.meter.now (price k (length codes)))) right
    ∙ twice_raised c.args.meter.now (price k (length codes))
    ∙ ap (raised c.args.meter.now) (units_paired k us vs codes others c.planes-left.ensures.codes also c.requires.other (row_at need))
