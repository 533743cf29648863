use Rattle.std.proofs.Common.{Bool, List, ap, arith, refl, ℕ, ◌&&◌, ◌*◌, ◌+◌, ◌<◌, ◌≡◌, ◌∙◌}
use Rattle.bw_mask.specs.Masks.{row_at, row_in}
use Rattle.bw_code.specs.Tests.{code_compares}
use Rattle.bw_code.specs.Units.{agreement, by_planes, cost_of}
use Rattle.bw_code.proofs.Reach.{sum_more, sum_none}
use Rattle.bw_code.proofs.UnitLemmas.{cost_same}
use Rattle.bw_vertical.specs.Planes.{code_in}
use Rattle.bw_vertical.proofs.Scanned.{found_more}
use Rattle.bw_vertical.proofs.pair.pair_from.Goals as goal

pub loop-q-init : goal.loop-q-init
loop-q-init g c = record {
  units = refl;
  other_units = refl;
  reads = rw sum_none (omega arith);
  other_reads = rw sum_none (omega arith);
  most = omega arith;
  other_most = omega arith;
  shape = (refl, refl);
  rows = λ j h. absurd (omega arith);
}

pub loop-q-preserved : goal.loop-q-preserved
loop-q-preserved g c =
    let k = c.args.width in
    let q = c.loop-q.q in
    let need = c.args.need.now in
    let units = g.A.Source.units c.args.a.now in
    let others = g.B.Source.units c.args.b.now in
    let now = g.A.Source.units c.loop-q.a in
    let also = g.B.Source.units c.loop-q.b in
    let before = c.loop-q.invariant in
    let wanted : ℕ → Bool = λ j. code_compares c.args.op (code_in k units j) (code_in k others j) in
    let price : List (List ℕ) → List (List ℕ) → ℕ → ℕ = λ us vs p. cost_of (by_planes k) (λ j. row_at need (256 * p + j)) (λ j. agreement 2 k (code_in k us (256 * p + j)) (code_in k vs (256 * p + j))) in
    let here : (j : ℕ) → j < 256 → row_in c.lanes_at.result j ≡ row_at need (256 * q + j) = λ j h. c.lanes_at.ensures j h ∙ c.words-words.ensures.rows (256 * q + j) in
    let cost : cost_of (by_planes k) (row_in c.lanes_at.result) (λ j. agreement 2 k (code_in k now (256 * q + j)) (code_in k also (256 * q + j))) ≡ price units others q =
    cost_same (by_planes k) _ _ _ _ here (λ j h. refl) ∙ ap (λ us. price us also q) before.units ∙ ap (λ vs. price units vs q) before.other_units in
    let rows : (j : ℕ) → j < 256 → row_in c.segment-found.result j ≡ (row_in c.lanes_at.result j && wanted (256 * q + j)) = λ j h.
    c.segment-found.ensures.rows j h
    ∙ ap (λ us. row_in c.lanes_at.result j && code_compares c.args.op (code_in k us (256 * q + j)) (code_in k also (256 * q + j))) before.units
    ∙ ap (λ vs. row_in c.lanes_at.result j && code_compares c.args.op (code_in k units (256 * q + j)) (code_in k vs (256 * q + j))) before.other_units in
    record {
      units = c.segment-found.ensures.units ∙ before.units;
      other_units = c.segment-found.ensures.other_units ∙ before.other_units;
      reads = omega (arith, c.segment-found.ensures.reads, before.reads, cost, sum_more q (price units others));
      other_reads = omega (arith, c.segment-found.ensures.other_reads, before.other_reads, cost, sum_more q (price units others));
      most = omega arith;
      other_most = omega arith;
      shape = (c.put_lanes.ensures.shape.0 ∙ before.shape.0, c.put_lanes.ensures.shape.1 ∙ before.shape.1);
      rows = found_more need c.loop-q.out c.put_lanes.new.out c.lanes_at.result c.segment-found.result wanted q (before.shape.0 ∙ c.requires.out) c.put_lanes.ensures.shape.0
          c.put_lanes.ensures.inside c.put_lanes.ensures.before here rows before.rows;
    }
