use Rattle.std.proofs.Common.{◌&&◌, ap, arith, refl, subst, ℕ, ◌*◌, ◌+◌, ◌<◌, ◌≡◌, ◌∙◌}
use Rattle.std.proofs.lemmas.Bool.{lt-ltb}
use Rattle.std.specs.Int.{div_ceil}
use Rattle.std.proofs.Math.Nat.{mul-le-mul_right}
use Rattle.bw_mask.specs.Masks.{len, row_at}
use Rattle.bw_lane.specs.Sections.{on}
use Rattle.bw_code.specs.Tests.{meets}
use Rattle.bw_code.specs.Units.{by_words, segment_units, segments_of}
use Rattle.bw_code.proofs.Reach.{sum_more, sum_none}
use Rattle.bw_horizontal.specs.Words.{code_at, code_in, segment_rows}
use Rattle.bw_horizontal.proofs.Costs.{cost_by_need, cost_most}
use Rattle.bw_horizontal.specs.Gathering.{AreGathered}
use Rattle.bw_horizontal.proofs.Gathered.{none_gathered}
use Rattle.bw_horizontal.proofs.Places.{rows_pos}
use Rattle.bw_horizontal.proofs.Rows.{begins_below, code_here, past_need, rows_whole}
use Rattle.bw_horizontal.proofs.scan.scan_from.Goals as goal

pub loop-q-init : goal.loop-q-init
loop-q-init g c = record {
  units = refl;
  reads = rw sum_none (omega arith);
  most = omega arith;
  shape = (refl, refl);
  rows = subst (λ at. AreGathered c.args.out.now at 0 (λ j. row_at c.args.need.now j && meets c.args.test (code_in c.args.width (g.S.Source.units c.args.source.now) j))) (omega arith) (none_gathered c.args.out.now _);
}

pub segment-found-requires-clause-there : goal.segment-found-requires-clause-there
segment-found-requires-clause-there g c =
    let count = c.div_ceil-segments.ensures ∙ ap (λ n. div_ceil n (segment_rows c.args.width)) c.len.ensures.rows in
    rw (c.loop-q.invariant.units, c.requires.units.count) (mul-le-mul_right (c.args.width + 1) (omega (arith, count, c.loop-q-test.true)))

pub segment-found-requires-clause-few : goal.segment-found-requires-clause-few
segment-found-requires-clause-few g c =
    let below = begins_below c.len.result (segment_rows c.args.width) c.loop-q.q (rows_pos c.args.width c.requires.narrow) (omega (arith, c.div_ceil-segments.ensures, c.loop-q-test.true)) in
    omega (arith, below, c.len.ensures.rows, c.requires.few, c.loop-q.invariant.most, c.requires.reads, c.requires.narrow)

pub loop-q-preserved : goal.loop-q-preserved
loop-q-preserved g c =
    let k = c.args.width in
    let q = c.loop-q.q in
    let test = c.args.test in
    let code = λ (j : ℕ). code_in k (g.S.Source.units c.args.source.now) j in
    let need = λ (j : ℕ). row_at c.args.need.now j in
    let here : (r : ℕ) → r < segment_rows k → on c.bits-here.result r ≡ need (segment_rows k * q + r) = λ r h. c.bits-here.ensures r ∙ rw (lt-ltb r (segment_rows k) h) (ap need (omega arith)) in
    let reads = c.segment-found.ensures.reads in
    let cost = cost_by_need k test (on c.bits-here.result) (λ r. need (segment_rows k * q + r)) (code_at k (g.S.Source.units c.loop-q.source) q) (λ r. code (segment_rows k * q + r)) here in
    let found = rw c.loop-q.invariant.units at c.segment-found.ensures.rows in
    let out_len = c.loop-q.invariant.shape.0 ∙ c.requires.out in
    let rows = c.gather-rest.ensures.rows (λ j. need j && meets test (code j)) c.loop-q.invariant.rows (λ r h. found r h ∙ rw (c.bits-here.ensures r, lt-ltb r (segment_rows k) h, code_here k (g.S.Source.units c.args.source.now) q r h) refl) in
    record {
      units = c.segment-found.ensures.units ∙ c.loop-q.invariant.units;
      reads = omega (arith, reads, cost, c.loop-q.invariant.reads, sum_more q (λ p. segment_units (by_words k) test (λ j. need (segment_rows k * p + j)) (λ j. code (segment_rows k * p + j))));
      most = omega (arith, reads, c.loop-q.invariant.most, cost_most k test (on c.bits-here.result) (code_at k (g.S.Source.units c.loop-q.source) q), c.requires.narrow);
      shape = (c.gather-rest.ensures.shape.0 ∙ c.loop-q.invariant.shape.0, c.gather-rest.ensures.shape.1 ∙ c.loop-q.invariant.shape.1);
      rows = subst (λ at. AreGathered c.gather-rest.new.out at c.gather-rest.result (λ j. need j && meets test (code j))) (omega arith) rows;
    }

pub returns-clause-reads : goal.returns-clause-reads
returns-clause-reads g c =
    let count = c.div_ceil-segments.ensures ∙ ap (λ n. div_ceil n (segment_rows c.args.width)) c.len.ensures.rows in
    let all : c.loop-q.q ≡ segments_of (segment_rows c.args.width) (len c.args.need.now) = omega (arith, count, c.loop-q-test.false) in
    rw all at c.loop-q.invariant.reads

pub returns-clause-rows : goal.returns-clause-rows
returns-clause-rows g c =
    let k = c.args.width in
    let need = c.args.need.now in
    let wanted = λ (j : ℕ). row_at need j && meets c.args.test (code_in k (g.S.Source.units c.args.source.now) j) in
    let out_len : len c.loop-q.out ≡ len need = c.loop-q.invariant.shape.0 ∙ c.requires.out in
    let all : segment_rows k * c.loop-q.q ≡ segment_rows k * c.div_ceil-segments.result = ap (λ q. segment_rows k * q) (omega (arith, c.loop-q-test.false)) in
    let gathered = subst (λ at. AreGathered c.loop-q.out at c.loop-q.rest wanted) all c.loop-q.invariant.rows in
    rows_whole (len need) (segment_rows k) c.div_ceil-segments.result c.finish.new.out wanted (past_need need (λ j. meets c.args.test (code_in k (g.S.Source.units c.args.source.now) j))) (rows_pos k c.requires.narrow)
    (c.finish.ensures.shape.0 ∙ out_len) (omega (arith, c.div_ceil-segments.ensures, c.len.ensures.rows, ap (λ n. div_ceil n (segment_rows k)) c.len.ensures.rows))
    (λ j h l. c.finish.ensures.rows wanted gathered j h (omega (arith, l, out_len)))
