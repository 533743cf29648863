use Rattle.std.proofs.Common.{None, Option, ap, arith, drop, get_or, is_some, length, length-take, map, of_z, replicate, subst, sym, take, to_z, w64, ℕ, ℤ, ◌+◌, ◌<◌, ◌∙◌, ◌≡◌, ◌≤◌}
use Rattle.std.proofs.lemmas.Int.{ints, to_z-of_z}
use Rattle.std.proofs.lemmas.List.{length-replicate}
use Rattle.bw_mask.specs.Masks.{bit_of}
use Rattle.bw_cells.specs.Distances.{distance_from}
use Rattle.bw_column.specs.Values.{value_at}
use Rattle.bw_groups.specs.Runs.{AreFilled, IsMeasured}
use Rattle.bw_groups.proofs.Measured.{none_filled}
use Rattle.bw_engine.specs.Runs.{lines_from, value_line}
use Rattle.bw_engine.proofs.MeasuredRuns.{fits_at, one_at_most, read_far, read_there, row_step}
use Rattle.bw_engine.proofs.found_cells.gather_cells.Goals as goal

pub rows-init : goal.rows-init
rows-init g c = record {
  few = omega arith;
  filled = none_filled (to_z w64 (of_z w64 c.args.base)) c.args.out.now (replicate {A = ℕ} 64 0);
}

pub rows-preserved : goal.rows-preserved
rows-preserved g c =
    let base = to_z w64 (of_z w64 c.args.base) in
    let values = g.C.SlotCells.cells c.args.cells.now in
    let at = c.args.at in
    let n = c.args.n in
    let passes = bit_of c.args.word in
    let i = c.rows.i in
    let len = c.rows.len in
    let run = lines_from (value_line values at) passes 0 i in
    let v : Option ℤ = value_at values (at + i) in
    let here : i < n = c.rows-test.true in
    let asked : length (take n (replicate {A = ℕ} 64 0)) ≡ n = omega (arith, length-take n (replicate {A = ℕ} 64 0), length-replicate {A = ℕ} 64 0, c.requires.few) in
    let distances : c.distances-present.new.out ≡ map (distance_from base) (take n (drop at values)) = c.distances-present.ensures.distances ∙ ap (λ m. map (distance_from base) (take m (drop at values))) asked in
    let present : (k : ℕ) → bit_of c.distances-present.result k ≡ is_some (get_or (take n (drop at values)) k None) = λ k. c.distances-present.ensures.present k ∙ ap (λ m. is_some (get_or (take m (drop at values)) k None)) asked in
    let far = read_far base values at n i c.distances-present.new.out here c.requires.inside distances in
    let there : c.has_bit.result ≡ is_some v = c.has_bit.ensures ∙ read_there values at n i c.distances-present.result here present in
    let put = c.put_distance.ensures.put base run v c.rows.invariant.filled (fits_at values c.len-fit.ensures.fit (at + i)) far there in
    let keeps = c.put_distance.ensures.keeps base run c.rows.invariant.filled in
    let step = row_step base values at passes c.has_bit-in-rows.result i len c.put_distance.new.out c.put_distance.new.there (sym c.has_bit-in-rows.ensures) put keeps in
    record {
      few = omega (arith, c.rows.invariant.few, c.from-len.ensures, one_at_most c.has_bit-in-rows.result);
      filled = subst (λ m. AreFilled base (lines_from (value_line values at) passes 0 (i + 1)) (len + m) c.put_distance.new.out c.put_distance.new.there) (sym c.from-len.ensures) step;
    }

pub returns : goal.returns
returns g c =
    let base = to_z w64 (of_z w64 c.args.base) in
    let same : base ≡ c.args.base = search (arith, ints, to_z-of_z) in
    let lines = lines_from (value_line (g.C.SlotCells.cells c.args.cells.now) c.args.at) (bit_of c.args.word) 0 in
    let filled = subst (λ m. AreFilled base (lines m) c.rows.len c.rows.out c.rows.there) (omega (arith, c.rows-test.false, c.rows.auto.i-end)) c.rows.invariant.filled in
    subst (λ b. IsMeasured b (lines c.args.n) c.filled_run.result.len c.filled_run.result.present c.rows.out) same (c.filled_run.ensures base (lines c.args.n) c.rows.out filled)
