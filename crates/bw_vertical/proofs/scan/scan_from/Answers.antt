use Rattle.std.proofs.Common.{Bool, ap, arith, refl, ℕ, ◌&&◌, ◌*◌, ◌+◌, ◌<◌, ◌≡◌, ◌∙◌}
use Rattle.bw_mask.specs.Masks.{row_at, row_in}
use Rattle.bw_code.specs.Tests.{meets}
use Rattle.bw_code.specs.Units.{by_planes, segment_units}
use Rattle.bw_code.proofs.Reach.{sum_more, sum_none}
use Rattle.bw_code.proofs.UnitLemmas.{segment_same}
use Rattle.bw_vertical.specs.Planes.{code_in}
use Rattle.bw_vertical.proofs.Scanned.{found_more}
use Rattle.bw_vertical.proofs.scan.scan_from.Goals as goal

pub loop-q-init : goal.loop-q-init
loop-q-init g c = record {
  units = refl;
  reads = rw sum_none (omega arith);
  most = omega arith;
  shape = (refl, refl);
  rows = λ j h. absurd (omega arith);
}

pub loop-q-preserved : goal.loop-q-preserved
loop-q-preserved g c =
    let k = c.args.width in
    let q = c.loop-q.q in
    let test = c.args.test in
    let need = c.args.need.now in
    let units = g.S.Source.units c.args.source.now in
    let before = c.loop-q.invariant in
    let wanted : ℕ → Bool = λ j. meets test (code_in k units j) in
    let here : (j : ℕ) → j < 256 → row_in c.lanes_at.result j ≡ row_at need (256 * q + j) = λ j h. c.lanes_at.ensures j h ∙ c.words-words.ensures.rows (256 * q + j) in
    let cost : segment_units (by_planes k) test (row_in c.lanes_at.result) (λ j. code_in k (g.S.Source.units c.loop-q.source) (256 * q + j)) ≡ segment_units (by_planes k) test (λ j. row_at need (256 * q + j)) (λ j. code_in k units (256 * q + j)) =
    segment_same (by_planes k) test _ _ _ _ here (λ j h. refl) ∙ ap (λ us. segment_units (by_planes k) test (λ j. row_at need (256 * q + j)) (λ j. code_in k us (256 * q + j))) before.units in
    let rows : (j : ℕ) → j < 256 → row_in c.segment-found.result j ≡ (row_in c.lanes_at.result j && wanted (256 * q + j)) = λ j h.
    c.segment-found.ensures.rows j h ∙ ap (λ us. row_in c.lanes_at.result j && meets test (code_in k us (256 * q + j))) before.units in
    record {
      units = c.segment-found.ensures.units ∙ before.units;
      reads = omega (arith, c.segment-found.ensures.reads, before.reads, cost, sum_more q (λ p. segment_units (by_planes k) test (λ j. row_at need (256 * p + j)) (λ j. code_in k units (256 * p + j))));
      most = omega arith;
      shape = (c.put_lanes.ensures.shape.0 ∙ before.shape.0, c.put_lanes.ensures.shape.1 ∙ before.shape.1);
      rows = found_more need c.loop-q.out c.put_lanes.new.out c.lanes_at.result c.segment-found.result wanted q (before.shape.0 ∙ c.requires.out) c.put_lanes.ensures.shape.0
          c.put_lanes.ensures.inside c.put_lanes.ensures.before here rows before.rows;
    }
