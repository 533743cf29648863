use Rattle.std.proofs.Common.{Option, [], arith, of_z, replicate, subst, sym, to_z, w64, ℕ, ℤ, ◌++◌, ◌+◌, ◌<◌, ◌∙◌, ◌∷◌, ◌≡◌, ◌≤◌}
use Rattle.std.proofs.lemmas.Int.{ints, to_z-of_z}
use Rattle.bw_mask.specs.Masks.{bit_of}
use Rattle.bw_groups.specs.Runs.{AreFilled, IsMeasured}
use Rattle.bw_groups.proofs.Measured.{none_filled}
use Rattle.bw_engine.specs.Runs.{lines_from, value_line}
use Rattle.bw_engine.proofs.MeasuredRuns.{row_left, row_taken}
use Rattle.bw_engine.proofs.found_cells.fetch_cells.Goals.{else-has_bit, then-has_bit}
use Rattle.bw_engine.proofs.found_cells.fetch_cells.Goals as goal

pub rows-init : goal.rows-init
rows-init g c = record {
  few = omega arith;
  filled = none_filled (to_z w64 (of_z w64 c.args.base)) c.args.out.now (replicate {A = ℕ} 64 0);
}

pub rows-preserved : goal.rows-preserved
rows-preserved g c =
    let base = to_z w64 (of_z w64 c.args.base) in
    let values = (g.C.SlotCells.cells c.args.cells.now) in
    let at = c.args.at in
    let passes = bit_of c.args.word in
    let i = c.rows.i in
    let len = c.rows.len in
    let run = lines_from (value_line values at) passes 0 i in
    elim c.if-has_bit.branch [
      | then-has_bit w ↦
          let there = sym c.has_bit.ensures ∙ w.if-has_bit.true in
          let put = w.put_distance.ensures.put base run w.get-value.result c.rows.invariant.filled w.distance_of.ensures.fits w.distance_of.ensures.distance w.is_some.ensures in
          let are = subst (λ (v : Option ℤ). AreFilled base (run ++ v ∷ []) (len + 1) w.put_distance.new.out w.put_distance.new.there) w.get-value.ensures put in
          rw (w.len-is, w.out-is, w.there-is) (record {
            few = omega (arith, c.rows.invariant.few);
            filled = row_taken base values at passes i (len + 1) w.put_distance.new.out w.put_distance.new.there there are;
          })
      | else-has_bit w ↦
          let away = sym c.has_bit.ensures ∙ w.if-has_bit.false in
          rw (w.len-is, w.out-is, w.there-is) (record {
            few = omega (arith, c.rows.invariant.few);
            filled = row_left base values at passes i len c.rows.out c.rows.there away c.rows.invariant.filled;
          })
    ]

pub returns : goal.returns
returns g c =
    let base = to_z w64 (of_z w64 c.args.base) in
    let same : base ≡ c.args.base = search (arith, ints, to_z-of_z) in
    let lines = lines_from (value_line (g.C.SlotCells.cells c.args.cells.now) c.args.at) (bit_of c.args.word) 0 in
    let filled = subst (λ n. AreFilled base (lines n) c.rows.len c.rows.out c.rows.there) (omega (arith, c.rows-test.false, c.rows.auto.i-end)) c.rows.invariant.filled in
    subst (λ b. IsMeasured b (lines c.args.n) c.filled_run.result.len c.filled_run.result.present c.rows.out) same (c.filled_run.ensures base (lines c.args.n) c.rows.out filled)
